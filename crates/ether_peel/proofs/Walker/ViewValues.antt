-- The values that the bytes of a view have are those that the window's bytes mean.
use Rattle.std.proofs.Common.{◌≡◌, ℕ, ◌-◌, ◌≤◌, List, length, take, refl, sym, ap, subst, arith}
use Rattle.std.specs.Prelude.{slice_range}
use Rattle.etherparse.specs.Bytes.{IsBytes}
use Rattle.etherparse.specs.Ethernet2.{Ethernet2Value, ethernet2_of}
use Rattle.etherparse.specs.LinuxSll.{LinuxSllValue, linux_sll_of}
use Rattle.etherparse.specs.Vlan.{VlanValue, vlan_of}
use Rattle.etherparse.specs.Macsec.{SecTagValue, sec_tag_front_in, sec_tag_front_of, sec_tag_len, sec_tag_of}
use Rattle.etherparse.specs.Arp.{ArpValue, BeginsWithArp, arp_front_in, arp_front_of, arp_len, arp_of}
use Rattle.etherparse.specs.Header.{header_len, Means}
use Rattle.etherparse.specs.Header as headers
use Rattle.etherparse.proofs.Ethernet2Fields.{ethernet2_means}
use Rattle.etherparse.proofs.LinuxSllFields.{linux_sll_means}
use Rattle.etherparse.proofs.VlanFields.{vlan_means}
use Rattle.etherparse.proofs.MacsecFields.{sec_tag_taken}
use Rattle.etherparse.proofs.Reading.{arp_begins_read, means_part}
use Rattle.etherparse.proofs.Rows.{one_arp_front, one_sec_tag_front, sec_tag_front_read}
use Rattle.etherparse.proofs.Means.{arp_begins, one_header, tag_begins, tag_unique}

same_ethernet2 : (a b : Ethernet2Value) → headers.Ethernet2 a ≡ headers.Ethernet2 b → a ≡ b
same_ethernet2 a b e = cc

same_linux_sll : (a b : LinuxSllValue) → headers.LinuxSll a ≡ headers.LinuxSll b → a ≡ b
same_linux_sll a b e = cc

same_vlan : (a b : VlanValue) → headers.Vlan a ≡ headers.Vlan b → a ≡ b
same_vlan a b e = cc

same_arp : (a b : ArpValue) → headers.Arp a ≡ headers.Arp b → a ≡ b
same_arp a b e = cc

pub ethernet2_shown : (bytes : List ℕ) (e : Ethernet2Value) → IsBytes bytes → Means bytes (headers.Ethernet2 e)
    → ethernet2_of bytes ≡ e
ethernet2_shown bytes e ok means =
    same_ethernet2 (ethernet2_of bytes) e
    (one_header bytes (headers.Ethernet2 (ethernet2_of bytes)) (headers.Ethernet2 e) refl
    (ethernet2_means bytes ok means.whole) means)

pub linux_sll_shown : (bytes : List ℕ) (s : LinuxSllValue) → IsBytes bytes → Means bytes (headers.LinuxSll s)
    → linux_sll_of bytes ≡ s
linux_sll_shown bytes s ok means =
    same_linux_sll (linux_sll_of bytes) s
    (one_header bytes (headers.LinuxSll (linux_sll_of bytes)) (headers.LinuxSll s) refl
    (linux_sll_means bytes ok means.whole) means)

pub vlan_shown : (bytes : List ℕ) (v : VlanValue) → IsBytes bytes → Means bytes (headers.Vlan v) → vlan_of bytes ≡ v
vlan_shown bytes v ok means =
    same_vlan (vlan_of bytes) v
    (one_header bytes (headers.Vlan (vlan_of bytes)) (headers.Vlan v) refl (vlan_means bytes ok means.whole) means)

-- a view of a tag has as many bytes as the tag's value says
pub macsec_shown : (bytes : List ℕ) (t : SecTagValue) → IsBytes bytes → Means bytes (headers.Macsec t)
    → sec_tag_of (slice_range bytes 0 (header_len (headers.Macsec t))) ≡ t
macsec_shown bytes t ok means =
    let n = header_len (headers.Macsec t) in
    let le = means.whole in
    let six : 6 ≤ length bytes = omega arith in
    let begins = tag_begins bytes t means in
    let front =
    one_sec_tag_front bytes (sec_tag_front_in bytes) (sec_tag_front_of begins.0 begins.1 t)
    (sec_tag_front_read bytes ok six) begins.2 in
    let len : n ≡ sec_tag_len (sec_tag_front_in bytes) = ap sec_tag_len (sym front) in
    let all : n ≡ n - 0 = omega arith in
    let taken =
    subst (λ (k : ℕ). Means bytes (headers.Macsec (sec_tag_of (take k bytes)))) all
    (sec_tag_taken bytes n ok six len le) in
    tag_unique bytes (sec_tag_of (slice_range bytes 0 n)) t taken means

-- and a view of a packet as many as the packet's
pub arp_shown : (bytes : List ℕ) (a : ArpValue) → IsBytes bytes → Means bytes (headers.Arp a)
    → arp_of (slice_range bytes 0 (header_len (headers.Arp a))) ≡ a
arp_shown bytes a ok means =
    let n = header_len (headers.Arp a) in
    let le = means.whole in
    let eight : 8 ≤ length bytes = omega arith in
    let front =
    one_arp_front bytes (arp_front_in bytes) (arp_front_of a) (arp_begins_read bytes ok eight)
    (arp_begins bytes a means) in
    let len : n ≡ arp_len (arp_front_in bytes) = ap arp_len (sym front) in
    let begins : BeginsWithArp bytes = record { front = eight; whole = omega (arith, len, le) } in
    let own = means_part bytes n ok begins len in
    same_arp (arp_of (slice_range bytes 0 n)) a
    (one_header bytes (headers.Arp (arp_of (slice_range bytes 0 n))) (headers.Arp a) refl own means)
