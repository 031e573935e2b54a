-- The bits of each field have its value.
use Rattle.std.proofs.Common.{◌≡◌, ℕ, ◌+◌, ◌*◌, ◌/◌, ◌%◌, ◌^◌, ◌<◌, ◌≤◌, List, [], ◌∷◌, ◌++◌, length, take, drop, codes, refl, sym, ap, ◌∙◌, arith}
use Rattle.std.specs.Prelude.{slice_range, Option, Some, None}
use Rattle.std.specs.Option.{is_some}
use Rattle.ether_base.specs.Bytes.{IsBytes, number}
use Rattle.ether_base.specs.Formats.Ethernet2.{Ethernet2Value, ethernet2_number, IsEthernet2, FitsEthernet2}
use Rattle.ether_base.specs.Formats.LinuxSll.{LinuxSllValue, linux_sll_number, IsLinuxSll, FitsLinuxSll}
use Rattle.ether_base.specs.Formats.Vlan.{VlanValue, vlan_number, IsVlan, FitsVlan}
use Rattle.ether_base.specs.Formats.Macsec.{SecTagFront, sec_tag_front_number, FitsSecTagFront, BeginsSecTag, SecTagValue, PayloadType, Unmodified, Modified, Encrypted, EncryptedUnmodified, sci_present_of, encrypted_of, changed_of, ether_type_len, HasSci, HasEtherType, sec_tag_front_of, sec_tag_len}
use Rattle.ether_base.specs.Formats.Arp.{ArpValue, ArpFront, arp_front_number, FitsArpFront, BeginsArp, arp_front_of, arp_len}
use Rattle.ether_base.specs.Formats.Header.{Header, Means, trailer_len}
use Rattle.ether_base.specs.Formats.Header as headers
use Rattle.ether_sll2.specs.LinuxSll2.{LinuxSll2Value, linux_sll2_number, FitsLinuxSll2, BeginsLinuxSll2}
use Rattle.ether_base.proofs.SubLists.{part_all}
use Rattle.ether_base.proofs.Means.{begins_whole, arp_begins}
use Rattle.ether_fields.specs.Rows.{Row, ethernet2_rows, linux_sll_rows, linux_sll2_rows, vlan_rows, macsec_rows, arp_rows}
use Rattle.ether_fields.specs.Places.{placed}
use Rattle.ether_fields.specs.Units.{header_rows, header_fields, trailer_fields, no_sizes, is_unmodified}
use Rattle.ether_fields.specs.declared.part.Part.TheVariants as parts
use Rattle.ether_fields.specs.declared.part.Sizes.{Sizes}
use Rattle.ether_fields.specs.FieldValues.{FieldValue, named, placed_values, ethernet2_values, linux_sll_values, linux_sll2_values, vlan_values, sec_tag_front_values, sci_values, payload_type_values, arp_front_values, arp_values, header_values, trailer_values}
use Rattle.ether_fields.proofs.BitNumbers.{bits_within, bytes_within, front_within}

-- what a list has at the places of fields of the same number of bits in each header
abbrev fixed_values : List ℕ → List Row → List FieldValue
fixed_values bytes rows = placed_values bytes rows (placed (parts.Header no_sizes) 0 rows)

-- ---- headers of one number

ethernet2_placed : (bytes : List ℕ) (e : Ethernet2Value) → IsBytes bytes → 14 ≤ length bytes
    → IsEthernet2 (slice_range bytes 0 14) e → fixed_values bytes ethernet2_rows ≡ ethernet2_values e
ethernet2_placed bytes e ok le is =
    let n = number (slice_range bytes 0 14) in
    let sum : n ≡ ethernet2_number e = is.sum in
    let fits : FitsEthernet2 e = is.fits in
    let destination : n / 2 ^ 64 % 2 ^ 48 ≡ e.destination = omega arith in
    let source : n / 2 ^ 16 % 2 ^ 48 ≡ e.source = omega arith in
    let ether_type : n / 2 ^ 0 % 2 ^ 16 ≡ e.ether_type = omega arith in
    let a = sym (bits_within bytes 0 0 48 14 ok le (omega arith)) ∙ destination in
    let b = sym (bits_within bytes 0 48 48 14 ok le (omega arith)) ∙ source in
    let c = sym (bits_within bytes 0 96 16 14 ok le (omega arith)) ∙ ether_type in
    λ i. named (codes "dst") (a i) ∷ named (codes "src") (b i) ∷ named (codes "type") (c i) ∷ []

linux_sll_placed : (bytes : List ℕ) (s : LinuxSllValue) → IsBytes bytes → 16 ≤ length bytes
    → IsLinuxSll (slice_range bytes 0 16) s → fixed_values bytes linux_sll_rows ≡ linux_sll_values s
linux_sll_placed bytes s ok le is =
    let n = number (slice_range bytes 0 16) in
    let sum : n ≡ linux_sll_number s = is.sum in
    let fits : FitsLinuxSll s = is.fits in
    let packet_type : n / 2 ^ 112 % 2 ^ 16 ≡ s.packet_type = omega arith in
    let hardware_type : n / 2 ^ 96 % 2 ^ 16 ≡ s.hardware_type = omega arith in
    let address_len : n / 2 ^ 80 % 2 ^ 16 ≡ s.address_len = omega arith in
    let address : n / 2 ^ 16 % 2 ^ 64 ≡ s.address = omega arith in
    let protocol : n / 2 ^ 0 % 2 ^ 16 ≡ s.protocol = omega arith in
    let a = sym (bits_within bytes 0 0 16 16 ok le (omega arith)) ∙ packet_type in
    let b = sym (bits_within bytes 0 16 16 16 ok le (omega arith)) ∙ hardware_type in
    let c = sym (bits_within bytes 0 32 16 16 ok le (omega arith)) ∙ address_len in
    let d = sym (bits_within bytes 0 48 64 16 ok le (omega arith)) ∙ address in
    let e = sym (bits_within bytes 0 112 16 16 ok le (omega arith)) ∙ protocol in
    λ i.
    named (codes "packet_type") (a i)
    ∷ named (codes "hw_type") (b i)
    ∷ named (codes "addr_len") (c i)
    ∷ named (codes "addr") (d i)
    ∷ named (codes "protocol") (e i)
    ∷ []

pub linux_sll2_placed : (bytes : List ℕ) (s : LinuxSll2Value) → IsBytes bytes → (begins : BeginsLinuxSll2 bytes s)
    → fixed_values bytes linux_sll2_rows ≡ linux_sll2_values begins.spells.reserved s
linux_sll2_placed bytes s ok begins =
    let le = begins.whole in
    let reserved = begins.spells.reserved in
    let n = number (slice_range bytes 0 20) in
    let sum : n ≡ linux_sll2_number reserved s = begins.spells.sum in
    let fits : FitsLinuxSll2 s = begins.spells.fits in
    let small : reserved < 2 ^ 16 = begins.spells.reserved_fits in
    let protocol : n / 2 ^ 144 % 2 ^ 16 ≡ s.protocol = omega arith in
    let unused : n / 2 ^ 128 % 2 ^ 16 ≡ reserved = omega arith in
    let interface_index : n / 2 ^ 96 % 2 ^ 32 ≡ s.interface_index = omega arith in
    let hardware_type : n / 2 ^ 80 % 2 ^ 16 ≡ s.hardware_type = omega arith in
    let packet_type : n / 2 ^ 72 % 2 ^ 8 ≡ s.packet_type = omega arith in
    let address_len : n / 2 ^ 64 % 2 ^ 8 ≡ s.address_len = omega arith in
    let address : n / 2 ^ 0 % 2 ^ 64 ≡ s.address = omega arith in
    let bits = λ (bit len : ℕ) (inside : bit + len ≤ 160). sym (bits_within bytes 0 bit len 20 ok le inside) in
    λ i.
    named (codes "protocol") ((bits 0 16 (omega arith) ∙ protocol) i)
    ∷ named (codes "reserved") ((bits 16 16 (omega arith) ∙ unused) i)
    ∷ named (codes "if_index") ((bits 32 32 (omega arith) ∙ interface_index) i)
    ∷ named (codes "hw_type") ((bits 64 16 (omega arith) ∙ hardware_type) i)
    ∷ named (codes "packet_type") ((bits 80 8 (omega arith) ∙ packet_type) i)
    ∷ named (codes "addr_len") ((bits 88 8 (omega arith) ∙ address_len) i)
    ∷ named (codes "addr") ((bits 96 64 (omega arith) ∙ address) i)
    ∷ []

vlan_placed : (bytes : List ℕ) (v : VlanValue) → IsBytes bytes → 4 ≤ length bytes
    → IsVlan (slice_range bytes 0 4) v → fixed_values bytes vlan_rows ≡ vlan_values v
vlan_placed bytes v ok le is =
    let n = number (slice_range bytes 0 4) in
    let sum : n ≡ vlan_number v = is.sum in
    let fits : FitsVlan v = is.fits in
    let pcp : n / 2 ^ 29 % 2 ^ 3 ≡ v.pcp = omega arith in
    let dei : n / 2 ^ 28 % 2 ^ 1 ≡ v.dei = omega arith in
    let vid : n / 2 ^ 16 % 2 ^ 12 ≡ v.vid = omega arith in
    let ether_type : n / 2 ^ 0 % 2 ^ 16 ≡ v.ether_type = omega arith in
    let a = sym (bits_within bytes 0 0 3 4 ok le (omega arith)) ∙ pcp in
    let b = sym (bits_within bytes 0 3 1 4 ok le (omega arith)) ∙ dei in
    let c = sym (bits_within bytes 0 4 12 4 ok le (omega arith)) ∙ vid in
    let d = sym (bits_within bytes 0 16 16 4 ok le (omega arith)) ∙ ether_type in
    λ i. named (codes "pcp") (a i) ∷ named (codes "dei") (b i) ∷ named (codes "vid") (c i)
    ∷ named (codes "type") (d i) ∷ []

-- ---- MACsec

sec_tag_front_placed : (bytes : List ℕ) (t : SecTagFront) → IsBytes bytes → 2 ≤ length bytes → BeginsSecTag bytes t
    → fixed_values bytes (take 10 macsec_rows) ≡ sec_tag_front_values t
sec_tag_front_placed bytes t ok le begins =
    let n = number (slice_range bytes 0 2) in
    let sum : n ≡ sec_tag_front_number t = begins.sum in
    let fits : FitsSecTagFront t = begins.fits in
    let v : n / 2 ^ 15 % 2 ^ 1 ≡ t.version = omega arith in
    let es : n / 2 ^ 14 % 2 ^ 1 ≡ t.end_station = omega arith in
    let sc : n / 2 ^ 13 % 2 ^ 1 ≡ t.sci_present = omega arith in
    let scb : n / 2 ^ 12 % 2 ^ 1 ≡ t.single_copy_broadcast = omega arith in
    let e : n / 2 ^ 11 % 2 ^ 1 ≡ t.encrypted = omega arith in
    let c : n / 2 ^ 10 % 2 ^ 1 ≡ t.changed = omega arith in
    let an : n / 2 ^ 8 % 2 ^ 2 ≡ t.association_number = omega arith in
    let reserved : n / 2 ^ 6 % 2 ^ 2 ≡ t.reserved = omega arith in
    let sl : n / 2 ^ 0 % 2 ^ 6 ≡ t.short_len = omega arith in
    let bits = λ (bit len : ℕ) (inside : bit + len ≤ 16). sym (bits_within bytes 0 bit len 2 ok le inside) in
    λ i.
    named (codes "v") ((bits 0 1 (omega arith) ∙ v) i)
    ∷ named (codes "es") ((bits 1 1 (omega arith) ∙ es) i)
    ∷ named (codes "sc") ((bits 2 1 (omega arith) ∙ sc) i)
    ∷ named (codes "scb") ((bits 3 1 (omega arith) ∙ scb) i)
    ∷ named (codes "e") ((bits 4 1 (omega arith) ∙ e) i)
    ∷ named (codes "c") ((bits 5 1 (omega arith) ∙ c) i)
    ∷ named (codes "an") ((bits 6 2 (omega arith) ∙ an) i)
    ∷ named (codes "reserved") ((bits 8 2 (omega arith) ∙ reserved) i)
    ∷ named (codes "sl") ((bits 10 6 (omega arith) ∙ sl) i)
    ∷ []

-- the sizes of a SecTag with this SCI and this payload
abbrev tag_sizes : Option ℕ → PayloadType → Sizes
tag_sizes sci p = record no_sizes { has_sci = is_some sci; has_payload_type = is_unmodified p }

-- what follows the packet number
tag_end_placed : (bytes : List ℕ) (n : ℕ) (sci : Option ℕ) (p : PayloadType) → IsBytes bytes → n ≤ length bytes
    → 6 + 8 * sci_present_of sci + ether_type_len (encrypted_of p) (changed_of p) ≤ n
    → HasSci (slice_range bytes 0 n) sci → HasEtherType (slice_range bytes 0 n) (6 + 8 * sci_present_of sci) p
    → placed_values bytes macsec_rows (placed (parts.Header (tag_sizes sci p)) 48 (drop 11 macsec_rows))
    ≡ sci_values sci ++ payload_type_values p
tag_end_placed bytes n None (Unmodified x) ok le within has type =
    let t = front_within bytes n 48 6 2 x refl ok le within type in λ i. named (codes "type") (t i) ∷ []
tag_end_placed bytes n (Some s) (Unmodified x) ok le within has type =
    let a = front_within bytes n 48 6 8 s refl ok le (omega arith) has in
    let t = front_within bytes n 112 14 2 x refl ok le within type in
    λ i. named (codes "sci") (a i) ∷ named (codes "type") (t i) ∷ []
tag_end_placed bytes n (Some s) Modified ok le within has type =
    let a = front_within bytes n 48 6 8 s refl ok le (omega arith) has in λ i. named (codes "sci") (a i) ∷ []
tag_end_placed bytes n (Some s) EncryptedUnmodified ok le within has type =
    let a = front_within bytes n 48 6 8 s refl ok le (omega arith) has in λ i. named (codes "sci") (a i) ∷ []
tag_end_placed bytes n (Some s) Encrypted ok le within has type =
    let a = front_within bytes n 48 6 8 s refl ok le (omega arith) has in λ i. named (codes "sci") (a i) ∷ []
tag_end_placed bytes n None Modified ok le within has type = refl
tag_end_placed bytes n None EncryptedUnmodified ok le within has type = refl
tag_end_placed bytes n None Encrypted ok le within has type = refl

sec_tag_placed : (bytes : List ℕ) (t : SecTagValue) → IsBytes bytes → (means : Means bytes (headers.Macsec t))
    → placed_values bytes macsec_rows (header_fields (headers.Macsec t)) ≡ header_values bytes (headers.Macsec t) means
sec_tag_placed bytes t ok means =
    let n = sec_tag_len (sec_tag_front_of 0 0 t) in
    let le : n ≤ length bytes = means.whole in
    let is = means.spells in
    let front = sec_tag_front_of is.version is.reserved t in
    let f =
    sec_tag_front_placed bytes front ok (omega arith) (begins_whole bytes n front (omega arith) is.front) in
    let pn = front_within bytes n 16 2 4 t.packet_number refl ok le (omega arith) is.packet_number in
    let more = tag_end_placed bytes n t.sci t.payload_type ok le (omega arith) is.sci is.ether_type in
    λ i. f i ++ (named (codes "pn") (pn i) ∷ more i)

-- ---- ARP

arp_front_placed : (bytes : List ℕ) (a : ArpFront) → IsBytes bytes → 8 ≤ length bytes → BeginsArp bytes a
    → fixed_values bytes (take 5 arp_rows) ≡ arp_front_values a
arp_front_placed bytes a ok le begins =
    let n = number (slice_range bytes 0 8) in
    let sum : n ≡ arp_front_number a = begins.sum in
    let fits : FitsArpFront a = begins.fits in
    let hrd : n / 2 ^ 48 % 2 ^ 16 ≡ a.hardware_type = omega arith in
    let pro : n / 2 ^ 32 % 2 ^ 16 ≡ a.protocol_type = omega arith in
    let hln : n / 2 ^ 24 % 2 ^ 8 ≡ a.hardware_size = omega arith in
    let pln : n / 2 ^ 16 % 2 ^ 8 ≡ a.protocol_size = omega arith in
    let op : n / 2 ^ 0 % 2 ^ 16 ≡ a.operation = omega arith in
    let bits = λ (bit len : ℕ) (inside : bit + len ≤ 64). sym (bits_within bytes 0 bit len 8 ok le inside) in
    λ i.
    named (codes "hrd") ((bits 0 16 (omega arith) ∙ hrd) i)
    ∷ named (codes "pro") ((bits 16 16 (omega arith) ∙ pro) i)
    ∷ named (codes "hln") ((bits 32 8 (omega arith) ∙ hln) i)
    ∷ named (codes "pln") ((bits 40 8 (omega arith) ∙ pln) i)
    ∷ named (codes "op") ((bits 48 16 (omega arith) ∙ op) i)
    ∷ []

arp_placed : (bytes : List ℕ) (a : ArpValue) → IsBytes bytes → Means bytes (headers.Arp a)
    → placed_values bytes arp_rows (header_fields (headers.Arp a)) ≡ arp_values a
arp_placed bytes a ok means =
    let front = arp_front_of a in
    let n = arp_len front in
    let le : n ≤ length bytes = means.whole in
    let f = arp_front_placed bytes front ok (omega arith) (arp_begins bytes a means) in
    let h = length a.sender_hardware in
    let p = length a.sender_protocol in
    let is = means.spells in
    let sha =
    front_within bytes n 64 8 h (number a.sender_hardware) refl ok le (omega arith) (ap number is.sender_hardware) in
    let spa =
    front_within bytes n (64 + 8 * h) (8 + h) p (number a.sender_protocol) (omega arith) ok le (omega arith)
    (ap number is.sender_protocol) in
    let tha =
    front_within bytes n (64 + 8 * h + 8 * p) (8 + h + p) h (number a.target_hardware) (omega arith) ok le
    (omega arith) (ap number is.target_hardware) in
    let tpa =
    front_within bytes n (64 + 8 * h + 8 * p + 8 * h) (8 + 2 * h + p) p (number a.target_protocol) (omega arith) ok
    le (omega arith) (ap number is.target_protocol) in
    λ i.
    f i
    ++ (named (codes "sha") (sha i)
    ∷ named (codes "spa") (spa i)
    ∷ named (codes "tha") (tha i)
    ∷ named (codes "tpa") (tpa i)
    ∷ [])

pub header_placed : (bytes : List ℕ) (h : Header) → IsBytes bytes → (means : Means bytes h)
    → placed_values bytes (header_rows h) (header_fields h) ≡ header_values bytes h means
header_placed bytes (headers.Ethernet2 e) ok means = ethernet2_placed bytes e ok means.whole means.spells
header_placed bytes (headers.Ethernet2Fcs e) ok means = ethernet2_placed bytes e ok means.whole means.spells
header_placed bytes (headers.LinuxSll s) ok means = linux_sll_placed bytes s ok means.whole means.spells
header_placed bytes (headers.Vlan v) ok means = vlan_placed bytes v ok means.whole means.spells
header_placed bytes (headers.Macsec t) ok means = sec_tag_placed bytes t ok means
header_placed bytes (headers.Arp a) ok means = arp_placed bytes a ok means

-- ---- the frame check sequence

pub trailer_placed : (bytes : List ℕ) (h : Header) → IsBytes bytes → length bytes ≡ trailer_len h
    → placed_values bytes (header_rows h) (trailer_fields h) ≡ trailer_values bytes h
trailer_placed bytes (headers.Ethernet2Fcs e) ok len =
    let fcs = bytes_within bytes 0 0 4 refl ok (omega arith) ∙ ap number (part_all bytes 4 (omega arith)) in
    λ i. named (codes "fcs") (fcs i) ∷ []
trailer_placed bytes _ ok len = refl
