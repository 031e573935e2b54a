-- Bytes that are accepted mean one header.
use Rattle.std.proofs.Common.{◌≡◌, ℕ, zero, suc, ◌+◌, ◌*◌, ◌<◌, ◌≤◌, List, length, refl, sym, ap, subst, ◌∙◌, arith}
use Rattle.std.specs.Prelude.{slice_range, Option, Some, None, unwrap_or}
use Rattle.ether_base.specs.declared.len_source.LenSource.{LenSource}
use Rattle.ether_base.specs.Bytes.{IsBytes, number}
use Rattle.ether_base.specs.Formats.Macsec.{SecTagFront, BeginsSecTag, sec_tag_len, known_payload_len, PayloadType, Unmodified, Modified, Encrypted, EncryptedUnmodified, SecTagValue, encrypted_of, changed_of, sci_present_of, sec_tag_front_of, ether_type_len, FitsSecTagFront, HasSci, HasEtherType, IsSecTag, payload_type_for, sci_for, sec_tag_with}
use Rattle.ether_base.specs.Formats.Arp.{ArpValue, ArpFront, BeginsArp, arp_front_of, arp_len, bytes_at, IsArp}
use Rattle.ether_base.specs.Formats.Kind.{Kind}
use Rattle.ether_base.specs.Formats.Kind as kinds
use Rattle.ether_base.specs.Formats.Ethernet2.{ethernet2_of}
use Rattle.ether_base.specs.Formats.Vlan.{vlan_of}
use Rattle.ether_base.specs.Formats.LinuxSll.{linux_sll_of}
use Rattle.ether_base.specs.Formats.Header.{Header, kind_of, header_len, Spells, Means, trailer_len, unit_len}
use Rattle.ether_base.specs.Formats.Header as headers
use Rattle.ether_base.specs.Formats.Refusal.{IsTooShort, Accepts}
use Rattle.ether_base.specs.Formats.Refusal as rows
use Rattle.ether_base.proofs.Values.{ethernet2_unique, vlan_unique, linux_sll_unique}
use Rattle.ether_base.proofs.Ethernet2Fields.{ethernet2_means, ethernet2_read}
use Rattle.ether_base.proofs.VlanFields.{vlan_means}
use Rattle.ether_base.proofs.LinuxSllFields.{linux_sll_means}
use Rattle.ether_base.proofs.SubLists.{length-part, part_of_front}
use Rattle.ether_base.proofs.Rows.{at_least, version_zero, one_sec_tag_front, one_arp_front, some_sec_tag_front, some_arp_front}

-- ---- there is one

encrypted_for : (e c n : ℕ) → e < 2 → encrypted_of (payload_type_for e c n) ≡ e
encrypted_for zero zero n h = refl
encrypted_for zero (suc c) n h = refl
encrypted_for (suc e) zero n h = omega arith
encrypted_for (suc e) (suc c) n h = omega arith

changed_for : (e c n : ℕ) → c < 2 → changed_of (payload_type_for e c n) ≡ c
changed_for zero zero n h = refl
changed_for zero (suc c) n h = omega arith
changed_for (suc e) zero n h = refl
changed_for (suc e) (suc c) n h = omega arith

present_for : (p n : ℕ) → p < 2 → sci_present_of (sci_for p n) ≡ p
present_for zero n h = refl
present_for (suc p) n h = omega arith

sci_means : (bytes : List ℕ) (n p : ℕ) → 6 + 8 * p ≤ n
    → HasSci (slice_range bytes 0 n) (sci_for p (number (slice_range bytes 6 14)))
sci_means bytes n zero le = tt
sci_means bytes n (suc p) le = ap number (part_of_front bytes n 6 14 (omega arith) (omega arith))

type_means : (bytes : List ℕ) (n from e c : ℕ) → from + ether_type_len e c ≤ n
    → HasEtherType (slice_range bytes 0 n) from (payload_type_for e c (number (slice_range bytes from (from + 2))))
type_means bytes n from zero zero le = ap number (part_of_front bytes n from (from + 2) (omega arith) le)
type_means bytes n from zero (suc c) le = tt
type_means bytes n from (suc e) zero le = tt
type_means bytes n from (suc e) (suc c) le = tt

-- what the first two bytes of a part say
begins_part : (bytes : List ℕ) (n : ℕ) (c : SecTagFront) → 2 ≤ n → BeginsSecTag bytes c
    → BeginsSecTag (slice_range bytes 0 n) c
begins_part bytes n c le h = record {
  sum = ap number (part_of_front bytes n 0 2 (omega arith) le) ∙ h.sum;
  fits = h.fits;
}

pub begins_whole : (bytes : List ℕ) (n : ℕ) (c : SecTagFront) → 2 ≤ n → BeginsSecTag (slice_range bytes 0 n) c
    → BeginsSecTag bytes c
begins_whole bytes n c le h = record {
  sum = ap number (sym (part_of_front bytes n 0 2 (omega arith) le)) ∙ h.sum;
  fits = h.fits;
}

-- a front and what follows it are a value with this front
pub same_front : (bytes : List ℕ) (c : SecTagFront) → FitsSecTagFront c
    → sec_tag_front_of c.version c.reserved (sec_tag_with c bytes) ≡ c
same_front bytes c fits =
    let at = 6 + 8 * c.sci_present in
    let p = present_for c.sci_present (number (slice_range bytes 6 14)) fits.sci_present in
    let q = encrypted_for c.encrypted c.changed (number (slice_range bytes at (at + 2))) fits.encrypted in
    let r = changed_for c.encrypted c.changed (number (slice_range bytes at (at + 2))) fits.changed in
    λ i. record {
      version = c.version;
      end_station = c.end_station;
      sci_present = p i;
      single_copy_broadcast = c.single_copy_broadcast;
      encrypted = q i;
      changed = r i;
      association_number = c.association_number;
      reserved = c.reserved;
      short_len = c.short_len;
    }

pub tag_means : (bytes : List ℕ) (c : SecTagFront) → BeginsSecTag bytes c → sec_tag_len c ≤ length bytes
    → Means bytes (headers.Macsec (sec_tag_with c bytes))
tag_means bytes c begins whole =
    let n = sec_tag_len c in
    let t = sec_tag_with c bytes in
    let same = same_front bytes c begins.fits in
    let present : sci_present_of t.sci ≡ c.sci_present = ap (λ (f : SecTagFront). f.sci_present) same in
    let len : sec_tag_len (sec_tag_front_of 0 0 t) ≡ n = ap sec_tag_len same in
    let at : 6 + 8 * c.sci_present ≡ 6 + 8 * sci_present_of t.sci = omega arith in
    let type = type_means bytes n (6 + 8 * c.sci_present) c.encrypted c.changed (omega arith) in
    let means : IsSecTag (slice_range bytes 0 n) t = record {
      version = c.version;
      reserved = c.reserved;
      front = subst (BeginsSecTag (slice_range bytes 0 n)) (sym same) (begins_part bytes n c (omega arith) begins);
      packet_number = ap number (part_of_front bytes n 2 6 (omega arith) (omega arith));
      sci = sci_means bytes n c.sci_present (omega arith);
      ether_type = subst (λ (k : ℕ). HasEtherType (slice_range bytes 0 n) k t.payload_type) at type;
    } in
    record { whole = omega arith; spells = subst (λ (k : ℕ). IsSecTag (slice_range bytes 0 k) t) (sym len) means }

some_arp : (bytes : List ℕ) (f : ArpFront) → BeginsArp bytes f → arp_len f ≤ length bytes
    → (h : Header) × (kind_of h ≡ kinds.Arp) × Means bytes h
some_arp bytes f begins whole =
    let part = slice_range bytes 0 (arp_len f) in
    let len : length part ≡ arp_len f = length-part bytes 0 (arp_len f) whole ∙ omega arith in
    let h = f.hardware_size in
    let p = f.protocol_size in
    let sh = bytes_at part 8 h in
    let sp = bytes_at part (8 + h) p in
    let lh : length sh ≡ h = length-part part 8 (8 + h) (omega arith) ∙ omega arith in
    let lp : length sp ≡ p = length-part part (8 + h) (8 + h + p) (omega arith) ∙ omega arith in
    let a : ArpValue = record {
      hardware_type = f.hardware_type;
      protocol_type = f.protocol_type;
      operation = f.operation;
      sender_hardware = sh;
      sender_protocol = sp;
      target_hardware = bytes_at part (8 + length sh + length sp) (length sh);
      target_protocol = bytes_at part (8 + 2 * length sh + length sp) (length sp);
    } in
    let same : arp_front_of a ≡ f =
    λ i.
    record {
      hardware_type = f.hardware_type;
      protocol_type = f.protocol_type;
      hardware_size = lh i;
      protocol_size = lp i;
      operation = f.operation;
    } in
    let size : arp_len (arp_front_of a) ≡ arp_len f = ap arp_len same in
    let front : BeginsArp part f = record {
      sum = ap number (part_of_front bytes (arp_len f) 0 8 (omega arith) (omega arith)) ∙ begins.sum;
      fits = begins.fits;
    } in
    let means : IsArp part a = record {
      front = subst (BeginsArp part) (sym same) front;
      sender_hardware = ap (bytes_at part 8) lh;
      sender_protocol = ap (λ (n : ℕ). bytes_at part (8 + n) (length sp)) lh ∙ ap (bytes_at part (8 + h)) lp;
      target_hardware = refl;
      target_protocol = refl;
    } in (
      headers.Arp a,
      refl,
      record { whole = omega arith; spells = subst (λ (n : ℕ). IsArp (slice_range bytes 0 n) a) (sym size) means },
    )

some_macsec : (bound : LenSource) (bytes : List ℕ) (c : SecTagFront) → 6 ≤ length bytes → BeginsSecTag bytes c
    → Accepts bound bytes kinds.Macsec → (h : Header) × (kind_of h ≡ kinds.Macsec) × Means bytes h
some_macsec bound bytes c six begins accepted =
    let old : c.version ≡ 0 = version_zero bound bytes c six begins (accepted _) in
    let long : IsTooShort c → ⊥ = λ s. accepted _ (rows.macsec_short_len c six begins old s) in
    let whole : sec_tag_len c ≤ length bytes =
    at_least (length bytes) (sec_tag_len c) (λ lt. accepted _ (rows.macsec_header c six begins old long lt)) in
    (headers.Macsec (sec_tag_with c bytes), refl, tag_means bytes c begins whole)

pub some_header : (bound : LenSource) (bytes : List ℕ) (kind : Kind) → IsBytes bytes → Accepts bound bytes kind
    → (h : Header) × (kind_of h ≡ kind) × Means bytes h
some_header bound bytes kinds.Ethernet2 ok accepted = (
  headers.Ethernet2 (ethernet2_of bytes),
  refl,
  ethernet2_means bytes ok (at_least (length bytes) 14 (λ lt. accepted _ (rows.ethernet2 lt))),
)
some_header bound bytes kinds.Ethernet2Fcs ok accepted =
    let le : 18 ≤ length bytes = at_least (length bytes) 18 (λ lt. accepted _ (rows.ethernet2_fcs lt)) in (
      headers.Ethernet2Fcs (ethernet2_of bytes),
      refl,
      record { whole = omega arith; spells = ethernet2_read bytes ok (omega arith) },
    )
some_header bound bytes kinds.LinuxSll ok accepted = (
  headers.LinuxSll (linux_sll_of bytes),
  refl,
  linux_sll_means bytes ok (at_least (length bytes) 16 (λ lt. accepted _ (rows.linux_sll lt))),
)
some_header bound bytes kinds.Vlan ok accepted = (
  headers.Vlan (vlan_of bytes),
  refl,
  vlan_means bytes ok (at_least (length bytes) 4 (λ lt. accepted _ (rows.vlan lt))),
)
some_header bound bytes kinds.Macsec ok accepted =
    let six : 6 ≤ length bytes = at_least (length bytes) 6 (λ lt. accepted _ (rows.macsec lt)) in
    let c = some_sec_tag_front bytes ok six in
    some_macsec bound bytes c.0 six c.1 accepted
some_header bound bytes kinds.Arp ok accepted =
    let le : 8 ≤ length bytes = at_least (length bytes) 8 (λ lt. accepted _ (rows.arp lt)) in
    let c = some_arp_front bytes ok le in
    let whole : arp_len c.0 ≤ length bytes =
    at_least (length bytes) (arp_len c.0) (λ lt. accepted _ (rows.arp_addresses c.0 le c.1 lt)) in
    some_arp bytes c.0 c.1 whole

-- what a front of a list means, the list means
pub means_whole : (bytes : List ℕ) (n : ℕ) (h : Header) → n ≤ length bytes → Means (slice_range bytes 0 n) h
    → Means bytes h
means_whole bytes n h le m =
    let len : length (slice_range bytes 0 n) ≡ n = length-part bytes 0 n le ∙ omega arith in
    let k : header_len h ≤ length (slice_range bytes 0 n) = m.whole in
    record {
      whole = omega arith;
      spells =
          subst (λ (l : List ℕ). Spells l h) (part_of_front bytes n 0 (header_len h) (omega arith) (omega arith))
          m.spells;
    }

-- ---- and no other

sci_unique : (bytes : List ℕ) (a b : Option ℕ) → sci_present_of a ≡ sci_present_of b → HasSci bytes a → HasSci bytes b
    → a ≡ b
sci_unique bytes None None e h k = refl
sci_unique bytes None (Some n) e h k = absurd (omega arith)
sci_unique bytes (Some m) None e h k = absurd (omega arith)
sci_unique bytes (Some m) (Some n) e h k = ap Some (sym h ∙ k)

type_unique : (bytes : List ℕ) (from : ℕ) (a b : PayloadType) → encrypted_of a ≡ encrypted_of b
    → changed_of a ≡ changed_of b → HasEtherType bytes from a → HasEtherType bytes from b → a ≡ b
type_unique bytes from (Unmodified m) (Unmodified n) e f h k = ap Unmodified (sym h ∙ k)
type_unique bytes from Modified Modified e f h k = refl
type_unique bytes from EncryptedUnmodified EncryptedUnmodified e f h k = refl
type_unique bytes from Encrypted Encrypted e f h k = refl
type_unique bytes from _ _ e f h k = absurd (omega arith)

-- what the tag's first bytes say
pub tag_begins : (bytes : List ℕ) (t : SecTagValue) → Means bytes (headers.Macsec t)
    → (v r : ℕ) × BeginsSecTag bytes (sec_tag_front_of v r t)
tag_begins bytes t m = (
  m.spells.version,
  m.spells.reserved,
  begins_whole bytes (sec_tag_len (sec_tag_front_of 0 0 t))
      (sec_tag_front_of m.spells.version m.spells.reserved t) (omega arith) m.spells.front,
)

pub tag_unique : (bytes : List ℕ) (t u : SecTagValue) → Means bytes (headers.Macsec t) → Means bytes (headers.Macsec u)
    → t ≡ u
tag_unique bytes t u m n =
    let a = tag_begins bytes t m in
    let b = tag_begins bytes u n in
    let e = one_sec_tag_front bytes (sec_tag_front_of a.0 a.1 t) (sec_tag_front_of b.0 b.1 u) a.2 b.2 in
    let len : sec_tag_len (sec_tag_front_of 0 0 t) ≡ sec_tag_len (sec_tag_front_of 0 0 u) = ap sec_tag_len e in
    let part = slice_range bytes 0 (sec_tag_len (sec_tag_front_of 0 0 t)) in
    let n' : IsSecTag part u = subst (λ (k : ℕ). IsSecTag (slice_range bytes 0 k) u) (sym len) n.spells in
    let p : sci_present_of t.sci ≡ sci_present_of u.sci = ap (λ (c : SecTagFront). c.sci_present) e in
    let sci = sci_unique part t.sci u.sci p m.spells.sci n'.sci in
    let from : 6 + 8 * sci_present_of u.sci ≡ 6 + 8 * sci_present_of t.sci = omega arith in
    let ty =
    type_unique part (6 + 8 * sci_present_of t.sci) t.payload_type u.payload_type
    (ap (λ (c : SecTagFront). c.encrypted) e) (ap (λ (c : SecTagFront). c.changed) e) m.spells.ether_type
    (subst (λ (k : ℕ). HasEtherType part k u.payload_type) from n'.ether_type) in
    let pn : t.packet_number ≡ u.packet_number = sym m.spells.packet_number ∙ n'.packet_number in
    λ i. record {
      payload_type = ty i;
      end_station = (e i).end_station;
      single_copy_broadcast = (e i).single_copy_broadcast;
      association_number = (e i).association_number;
      short_len = (e i).short_len;
      packet_number = pn i;
      sci = sci i;
    }

pub arp_begins : (bytes : List ℕ) (a : ArpValue) → Means bytes (headers.Arp a) → BeginsArp bytes (arp_front_of a)
arp_begins bytes a m = record {
  sum =
      ap number (sym (part_of_front bytes (arp_len (arp_front_of a)) 0 8 (omega arith) (omega arith)))
      ∙ m.spells.front.sum;
  fits = m.spells.front.fits;
}

arp_same : (bytes : List ℕ) (a b : ArpValue) → Means bytes (headers.Arp a) → Means bytes (headers.Arp b) → a ≡ b
arp_same bytes a b m n =
    let e = one_arp_front bytes (arp_front_of a) (arp_front_of b) (arp_begins bytes a m) (arp_begins bytes b n) in
    let len : arp_len (arp_front_of a) ≡ arp_len (arp_front_of b) = ap arp_len e in
    let part = slice_range bytes 0 (arp_len (arp_front_of a)) in
    let k : IsArp part b = subst (λ (k : ℕ). IsArp (slice_range bytes 0 k) b) (sym len) n.spells in
    let h : length a.sender_hardware ≡ length b.sender_hardware = ap (λ (f : ArpFront). f.hardware_size) e in
    let p : length a.sender_protocol ≡ length b.sender_protocol = ap (λ (f : ArpFront). f.protocol_size) e in
    let sh : a.sender_hardware ≡ b.sender_hardware =
    sym m.spells.sender_hardware ∙ ap (bytes_at part 8) h ∙ k.sender_hardware in
    let sp : a.sender_protocol ≡ b.sender_protocol =
    sym m.spells.sender_protocol ∙ ap (λ (n : ℕ). bytes_at part (8 + n) (length a.sender_protocol)) h
    ∙ ap (bytes_at part (8 + length b.sender_hardware)) p ∙ k.sender_protocol in
    let th : a.target_hardware ≡ b.target_hardware =
    sym m.spells.target_hardware ∙ ap (λ (n : ℕ). bytes_at part (8 + n + length a.sender_protocol) n) h
    ∙ ap (λ (n : ℕ). bytes_at part (8 + length b.sender_hardware + n) (length b.sender_hardware)) p
    ∙ k.target_hardware in
    let tp : a.target_protocol ≡ b.target_protocol =
    sym m.spells.target_protocol
    ∙ ap (λ (n : ℕ). bytes_at part (8 + 2 * n + length a.sender_protocol) (length a.sender_protocol)) h
    ∙ ap (λ (n : ℕ). bytes_at part (8 + 2 * length b.sender_hardware + n) n) p ∙ k.target_protocol in
    λ i.
    record {
      hardware_type = (e i).hardware_type;
      protocol_type = (e i).protocol_type;
      operation = (e i).operation;
      sender_hardware = sh i;
      sender_protocol = sp i;
      target_hardware = th i;
      target_protocol = tp i;
    }

pub one_header : (bytes : List ℕ) (h k : Header) → kind_of h ≡ kind_of k → Means bytes h → Means bytes k → h ≡ k
one_header bytes (headers.Ethernet2 a) (headers.Ethernet2 b) e m n =
    ap headers.Ethernet2 (ethernet2_unique a b m.spells.fits n.spells.fits (sym m.spells.sum ∙ n.spells.sum))
one_header bytes (headers.Ethernet2Fcs a) (headers.Ethernet2Fcs b) e m n =
    ap headers.Ethernet2Fcs (ethernet2_unique a b m.spells.fits n.spells.fits (sym m.spells.sum ∙ n.spells.sum))
one_header bytes (headers.LinuxSll a) (headers.LinuxSll b) e m n =
    ap headers.LinuxSll (linux_sll_unique a b m.spells.fits n.spells.fits (sym m.spells.sum ∙ n.spells.sum))
one_header bytes (headers.Vlan a) (headers.Vlan b) e m n =
    ap headers.Vlan (vlan_unique a b m.spells.fits n.spells.fits (sym m.spells.sum ∙ n.spells.sum))
one_header bytes (headers.Macsec a) (headers.Macsec b) e m n = ap headers.Macsec (tag_unique bytes a b m n)
one_header bytes (headers.Arp a) (headers.Arp b) e m n = ap headers.Arp (arp_same bytes a b m n)
one_header bytes _ _ e m n = absurd cc

-- ---- an accepted unit lies in its part

unknown_or_fits : (bound : LenSource) (bytes : List ℕ) (c : SecTagFront) (o : Option ℕ) → known_payload_len c ≡ o
    → BeginsSecTag bytes c → c.version ≡ 0 → sec_tag_len c ≤ length bytes → Accepts bound bytes kinds.Macsec
    → sec_tag_len c + unwrap_or o 0 ≤ length bytes
unknown_or_fits bound bytes c None e begins old whole accepted = omega arith
unknown_or_fits bound bytes c (Some p) e begins old whole accepted =
    at_least (length bytes) (sec_tag_len c + p) (λ lt. accepted _ (rows.macsec_packet c p begins old e whole lt))

pub unit_fits : (bound : LenSource) (bytes : List ℕ) (h : Header) → Accepts bound bytes (kind_of h) → Means bytes h
    → unit_len h + trailer_len h ≤ length bytes
unit_fits bound bytes (headers.Ethernet2 e) accepted m = let k = m.whole in omega arith
unit_fits bound bytes (headers.Ethernet2Fcs e) accepted m =
    at_least (length bytes) 18 (λ lt. accepted _ (rows.ethernet2_fcs lt))
unit_fits bound bytes (headers.LinuxSll s) accepted m = let k = m.whole in omega arith
unit_fits bound bytes (headers.Vlan v) accepted m = let k = m.whole in omega arith
unit_fits bound bytes (headers.Macsec t) accepted m =
    let a = tag_begins bytes t m in
    let c = sec_tag_front_of a.0 a.1 t in
    let whole : sec_tag_len c ≤ length bytes = m.whole in
    let old : a.0 ≡ 0 = version_zero bound bytes c (omega arith) a.2 (accepted _) in
    let fits = unknown_or_fits bound bytes c (known_payload_len c) refl a.2 old whole accepted in
    omega arith
unit_fits bound bytes (headers.Arp a) accepted m = let k = m.whole in omega arith
