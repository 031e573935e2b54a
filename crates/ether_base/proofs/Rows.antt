-- The table of refusals: no two rows hold together, and it can be told whether one does.
use Rattle.std.proofs.Common.{◌≡◌, ℕ, ◌+◌, ◌^◌, ◌<◌, ◌≤◌, List, length, refl, sym, ap, subst, ◌∙◌, arith, inl, inr, ◌⊎◌, Bool, true, false}
use Rattle.std.specs.Prelude.{slice_range, Option, Some, None}
use Rattle.std.proofs.lemmas.Bool.{cases_lt, cases_eq}
use Rattle.ether_base.specs.declared.len_source.LenSource.{LenSource}
use Rattle.ether_base.specs.declared.len_source.LenSource.TheVariants as sources
use Rattle.ether_base.specs.declared.err.layer.Layer.{Layer}
use Rattle.ether_base.specs.declared.err.layer.Layer.TheVariants as layers
use Rattle.ether_base.specs.Bytes.{IsBytes, number}
use Rattle.ether_base.specs.Formats.LinuxSll.{LinuxSllValue, BeginsLinuxSll, is_supported}
use Rattle.ether_base.specs.Formats.Macsec.{SecTagFront, BeginsSecTag, sec_tag_len, known_payload_len, sec_tag_front_in}
use Rattle.ether_base.specs.Formats.Arp.{ArpFront, BeginsArp, arp_len}
use Rattle.ether_base.specs.Formats.Kind.{Kind}
use Rattle.ether_base.specs.Formats.Kind as kinds
use Rattle.ether_base.specs.Formats.Refusal.{Refusal, Length, UnsupportedPacketType, UnsupportedHardwareType, UnexpectedVersion, InvalidShortLen, IsTooShort, Refuses, Accepts, IsOfPayload, AcceptsHeader}
use Rattle.ether_base.proofs.Numbers.{number_below}
use Rattle.ether_base.proofs.Values.{sec_tag_front_unique, sec_tag_front_exists, linux_sll_unique, linux_sll_at, linux_sll_exists, arp_front_unique, arp_front_at, arp_front_exists}
use Rattle.ether_base.proofs.SubLists.{length-part, IsBytes-part}
use Rattle.ether_base.specs.Formats.Refusal as rows

-- what is not below a number is at least that number
pub at_least : (a b : ℕ) → (a < b → ⊥) → b ≤ a
at_least a b never = elim (cases_lt a b) [ inl lt ↦ absurd (never lt) | inr le ↦ le ]

-- ---- what the first bytes say is one

pub one_sec_tag_front : (bytes : List ℕ) (t u : SecTagFront) → BeginsSecTag bytes t → BeginsSecTag bytes u → t ≡ u
one_sec_tag_front bytes t u h k = sec_tag_front_unique t u h.fits k.fits (sym h.sum ∙ k.sum)

pub one_linux_sll : (bytes : List ℕ) (t u : LinuxSllValue) → BeginsLinuxSll bytes t → BeginsLinuxSll bytes u → t ≡ u
one_linux_sll bytes t u h k = linux_sll_unique t u h.fits k.fits (sym h.sum ∙ k.sum)

pub one_arp_front : (bytes : List ℕ) (t u : ArpFront) → BeginsArp bytes t → BeginsArp bytes u → t ≡ u
one_arp_front bytes t u h k = arp_front_unique t u h.fits k.fits (sym h.sum ∙ k.sum)

-- ---- and there is one

pub below_part : (bytes : List ℕ) (n : ℕ) → IsBytes bytes → n ≤ length bytes → number (slice_range bytes 0 n) < 256 ^ n
below_part bytes n h le =
    let e : length (slice_range bytes 0 n) ≡ n = length-part bytes 0 n le ∙ omega arith in
    rw e at (number_below (slice_range bytes 0 n) (IsBytes-part 0 n bytes h))

pub sec_tag_front_read : (bytes : List ℕ) → IsBytes bytes → 6 ≤ length bytes
    → BeginsSecTag bytes (sec_tag_front_in bytes)
sec_tag_front_read bytes h le =
    let e = sec_tag_front_exists (number (slice_range bytes 0 2)) (below_part bytes 2 h (omega arith)) in
    record { sum = e.0; fits = e.1 }

pub some_sec_tag_front : (bytes : List ℕ) → IsBytes bytes → 6 ≤ length bytes → (t : SecTagFront) × BeginsSecTag bytes t
some_sec_tag_front bytes h le = (sec_tag_front_in bytes, sec_tag_front_read bytes h le)

pub some_linux_sll : (bytes : List ℕ) → IsBytes bytes → 16 ≤ length bytes → (t : LinuxSllValue) × BeginsLinuxSll bytes t
some_linux_sll bytes h le =
    let n = number (slice_range bytes 0 16) in
    let e = linux_sll_exists n (below_part bytes 16 h (omega arith)) in
    (linux_sll_at n, record { sum = e.0; fits = e.1 })

pub some_arp_front : (bytes : List ℕ) → IsBytes bytes → 8 ≤ length bytes → (t : ArpFront) × BeginsArp bytes t
some_arp_front bytes h le =
    let n = number (slice_range bytes 0 8) in
    let e = arp_front_exists n (below_part bytes 8 h (omega arith)) in
    (arp_front_at n, record { sum = e.0; fits = e.1 })

-- ---- no row holds

pub sec_tag_len_least : (t : SecTagFront) → 6 ≤ sec_tag_len t
sec_tag_len_least t = omega arith

pub accepts_macsec : (bound : LenSource) (bytes : List ℕ) (t : SecTagFront) → 6 ≤ length bytes → BeginsSecTag bytes t
    → t.version ≡ 0 → (IsTooShort t → ⊥) → sec_tag_len t ≤ length bytes
    → ((p : ℕ) → known_payload_len t ≡ Some p → sec_tag_len t + p ≤ length bytes) → Accepts bound bytes kinds.Macsec
accepts_macsec bound bytes t six begins version short whole fits r (rows.macsec lt) = omega arith
accepts_macsec bound bytes t six begins version short whole fits r (rows.macsec_version u le b v) =
    let e = ap (λ (x : SecTagFront). x.version) (one_sec_tag_front bytes u t b begins) in omega arith
accepts_macsec bound bytes t six begins version short whole fits r (rows.macsec_short_len u le b v s) =
    short (subst IsTooShort (one_sec_tag_front bytes u t b begins) s)
accepts_macsec bound bytes t six begins version short whole fits r (rows.macsec_header u le b v s lt) =
    let e = ap sec_tag_len (one_sec_tag_front bytes u t b begins) in omega arith
accepts_macsec bound bytes t six begins version short whole fits r (rows.macsec_packet u p b v s le lt) =
    let e = one_sec_tag_front bytes u t b begins in
    let k = fits p (ap known_payload_len (sym e) ∙ s) in
    let l = ap sec_tag_len e in
    omega arith

-- no row of the header holds, whatever follows it
accepts_tag_row : (bound : LenSource) (bytes : List ℕ) (t : SecTagFront) → 6 ≤ length bytes → BeginsSecTag bytes t
    → t.version ≡ 0 → (IsTooShort t → ⊥) → sec_tag_len t ≤ length bytes
    → (r : Refusal) → Refuses bound bytes kinds.Macsec r → (IsOfPayload r → ⊥) → ⊥
accepts_tag_row bound bytes t six begins version short whole r (rows.macsec lt) h = omega arith
accepts_tag_row bound bytes t six begins version short whole r (rows.macsec_version u le b v) h =
    let e = ap (λ (x : SecTagFront). x.version) (one_sec_tag_front bytes u t b begins) in omega arith
accepts_tag_row bound bytes t six begins version short whole r (rows.macsec_short_len u le b v s) h =
    short (subst IsTooShort (one_sec_tag_front bytes u t b begins) s)
accepts_tag_row bound bytes t six begins version short whole r (rows.macsec_header u le b v s lt) h =
    let e = ap sec_tag_len (one_sec_tag_front bytes u t b begins) in omega arith
accepts_tag_row bound bytes t six begins version short whole r (rows.macsec_packet u p b v s le lt) h = h refl

pub accepts_tag : (bound : LenSource) (bytes : List ℕ) (t : SecTagFront) → 6 ≤ length bytes → BeginsSecTag bytes t
    → t.version ≡ 0 → (IsTooShort t → ⊥) → sec_tag_len t ≤ length bytes → AcceptsHeader bound bytes kinds.Macsec
accepts_tag bound bytes t six begins version short whole r h =
    accepts_tag_row bound bytes t six begins version short whole r h.row h.of_header

-- with the payload that it names there, a tag whose header is accepted is accepted whole
pub accepts_packet : (bound : LenSource) (bytes : List ℕ) (t : SecTagFront) → AcceptsHeader bound bytes kinds.Macsec
    → BeginsSecTag bytes t → ((p : ℕ) → known_payload_len t ≡ Some p → sec_tag_len t + p ≤ length bytes)
    → Accepts bound bytes kinds.Macsec
accepts_packet bound bytes t header begins fits r (rows.macsec lt) =
    header _ (record { row = rows.macsec lt; of_header = λ e. absurd cc })
accepts_packet bound bytes t header begins fits r (rows.macsec_version u le b v) =
    header _ (record { row = rows.macsec_version u le b v; of_header = λ e. e })
accepts_packet bound bytes t header begins fits r (rows.macsec_short_len u le b v s) =
    header _ (record { row = rows.macsec_short_len u le b v s; of_header = λ e. e })
accepts_packet bound bytes t header begins fits r (rows.macsec_header u le b v s lt) =
    header _ (record { row = rows.macsec_header u le b v s lt; of_header = λ e. absurd cc })
accepts_packet bound bytes t header begins fits r (rows.macsec_packet u p b v s le lt) =
    let e = one_sec_tag_front bytes u t b begins in
    let k = fits p (ap known_payload_len (sym e) ∙ s) in
    let l = ap sec_tag_len e in
    omega arith

-- a version that is not refused is 0
pub version_zero : (bound : LenSource) (bytes : List ℕ) (t : SecTagFront) → 6 ≤ length bytes → BeginsSecTag bytes t
    → (Refuses bound bytes kinds.Macsec UnexpectedVersion → ⊥) → t.version ≡ 0
version_zero bound bytes t six begins never =
    let none =
    at_least 0 t.version (λ v. never (rows.macsec_version t six begins (omega (arith, begins.fits.version)))) in
    omega arith

-- a tag whose header is accepted has the version bit 0
pub accepted_version : (bound : LenSource) (bytes : List ℕ) (t : SecTagFront) → 6 ≤ length bytes
    → AcceptsHeader bound bytes kinds.Macsec → BeginsSecTag bytes t → t.version ≡ 0
accepted_version bound bytes t six header begins =
    version_zero bound bytes t six begins (λ row. header UnexpectedVersion (record { row = row; of_header = λ e. e }))

pub accepts_linux_sll : (bound : LenSource) (bytes : List ℕ) (t : LinuxSllValue) → 16 ≤ length bytes
    → BeginsLinuxSll bytes t → t.packet_type ≤ 7 → is_supported t.hardware_type ≡ true
    → Accepts bound bytes kinds.LinuxSll
accepts_linux_sll bound bytes t le begins packet hardware r (rows.linux_sll lt) = omega arith
accepts_linux_sll bound bytes t le begins packet hardware r (rows.linux_sll_packet_type u k b p) =
    let e = ap (λ (x : LinuxSllValue). x.packet_type) (one_linux_sll bytes u t b begins) in omega arith
accepts_linux_sll bound bytes t le begins packet hardware r (rows.linux_sll_hardware_type u k b p s) =
    let e = ap (λ (x : LinuxSllValue). is_supported x.hardware_type) (one_linux_sll bytes u t b begins) in
    let f : true ≡ false = sym hardware ∙ sym e ∙ s in
    cc

pub accepts_arp : (bound : LenSource) (bytes : List ℕ) (t : ArpFront) → 8 ≤ length bytes → BeginsArp bytes t
    → arp_len t ≤ length bytes → Accepts bound bytes kinds.Arp
accepts_arp bound bytes t le begins whole r (rows.arp lt) = omega arith
accepts_arp bound bytes t le begins whole r (rows.arp_addresses u k b lt) =
    let e = ap arp_len (one_arp_front bytes u t b begins) in omega arith

pub accepts_vlan : (bound : LenSource) (bytes : List ℕ) → 4 ≤ length bytes → Accepts bound bytes kinds.Vlan
accepts_vlan bound bytes le r (rows.vlan lt) = omega arith

pub accepts_ethernet2 : (bound : LenSource) (bytes : List ℕ) → 14 ≤ length bytes → Accepts bound bytes kinds.Ethernet2
accepts_ethernet2 bound bytes le r (rows.ethernet2 lt) = omega arith

pub accepts_ethernet2_fcs : (bound : LenSource) (bytes : List ℕ) → 18 ≤ length bytes
    → Accepts bound bytes kinds.Ethernet2Fcs
accepts_ethernet2_fcs bound bytes le r (rows.ethernet2_fcs lt) = omega arith

-- ---- it can be told whether a row holds

abbrev pub Decided : LenSource → List ℕ → Kind → Type 0
Decided bound bytes kind = ((r : Refusal) × Refuses bound bytes kind r) ⊎ Accepts bound bytes kind

decide_known : (bound : LenSource) (bytes : List ℕ) (t : SecTagFront) (o : Option ℕ) → known_payload_len t ≡ o
    → 6 ≤ length bytes → BeginsSecTag bytes t → t.version ≡ 0 → (IsTooShort t → ⊥) → sec_tag_len t ≤ length bytes
    → Decided bound bytes kinds.Macsec
decide_known bound bytes t None e six begins version short whole =
    inr
    (accepts_macsec bound bytes t six begins version short whole
    (λ p k. let f : None ≡ Some p = sym e ∙ k in absurd cc))
decide_known bound bytes t (Some p) e six begins version short whole =
    elim (cases_lt (length bytes) (sec_tag_len t + p)) [
      | inl lt ↦ inl (
        Length (sec_tag_len t + p) (length bytes) sources.MacsecShortLength layers.MacsecPacket,
        rows.macsec_packet t p begins version e whole lt,
      )
      | inr le ↦ inr
          (accepts_macsec bound bytes t six begins version short whole
          (λ q k. let f : Some p ≡ Some q = sym e ∙ k in let g : p ≡ q = cc in omega arith))
    ]

pub too_short : (t : SecTagFront) → IsTooShort t ⊎ (IsTooShort t → ⊥)
too_short t =
    elim (cases_lt 0 t.encrypted) [
      | inl e ↦ inr (λ s. let f = s.encrypted in omega arith)
      | inr e ↦ elim (cases_lt 0 t.changed) [
        | inl c ↦ inr (λ s. let f = s.changed in omega arith)
        | inr c ↦ elim (cases_eq t.short_len 1) [
          | inl l ↦ inl (record { encrypted = omega arith; changed = omega arith; short_len = l })
          | inr l ↦ inr (λ s. l s.short_len)
        ]
      ]
    ]

pub too_short_unknown : (t : SecTagFront) → IsTooShort t → known_payload_len t ≡ None
too_short_unknown t s = rw (s.encrypted, s.changed, s.short_len) refl

decide_macsec : (bound : LenSource) (bytes : List ℕ) → IsBytes bytes → 6 ≤ length bytes
    → Decided bound bytes kinds.Macsec
decide_macsec bound bytes h six =
    let c = some_sec_tag_front bytes h six in
    elim (cases_lt 0 c.0.version) [
      | inl v ↦ inl (UnexpectedVersion, rows.macsec_version c.0 six c.1 (omega (arith, c.1.fits.version)))
      | inr v ↦ elim (too_short c.0) [
        | inl s ↦ inl (InvalidShortLen, rows.macsec_short_len c.0 six c.1 (omega arith) s)
        | inr s ↦ elim (cases_lt (length bytes) (sec_tag_len c.0)) [
          | inl lt ↦ inl (
            Length (sec_tag_len c.0) (length bytes) bound layers.MacsecHeader,
            rows.macsec_header c.0 six c.1 (omega arith) s lt,
          )
          | inr le ↦ decide_known bound bytes c.0 (known_payload_len c.0) refl six c.1 (omega arith) s le
        ]
      ]
    ]

decide_hardware : (bound : LenSource) (bytes : List ℕ) (t : LinuxSllValue) (b : Bool) → is_supported t.hardware_type ≡ b
    → 16 ≤ length bytes → BeginsLinuxSll bytes t → t.packet_type ≤ 7 → Decided bound bytes kinds.LinuxSll
decide_hardware bound bytes t true e le begins packet = inr (accepts_linux_sll bound bytes t le begins packet e)
decide_hardware bound bytes t false e le begins packet =
    inl (UnsupportedHardwareType t.hardware_type, rows.linux_sll_hardware_type t le begins packet e)

decide_linux_sll : (bound : LenSource) (bytes : List ℕ) → IsBytes bytes → 16 ≤ length bytes
    → Decided bound bytes kinds.LinuxSll
decide_linux_sll bound bytes h le =
    let c = some_linux_sll bytes h le in
    elim (cases_lt 7 c.0.packet_type) [
      | inl p ↦ inl (UnsupportedPacketType c.0.packet_type, rows.linux_sll_packet_type c.0 le c.1 p)
      | inr p ↦ decide_hardware bound bytes c.0 (is_supported c.0.hardware_type) refl le c.1 p
    ]

decide_arp : (bound : LenSource) (bytes : List ℕ) → IsBytes bytes → 8 ≤ length bytes → Decided bound bytes kinds.Arp
decide_arp bound bytes h le =
    let c = some_arp_front bytes h le in
    elim (cases_lt (length bytes) (arp_len c.0)) [
      | inl lt ↦ inl
          (Length (arp_len c.0) (length bytes) sources.ArpAddrLengths layers.Arp, rows.arp_addresses c.0 le c.1 lt)
      | inr whole ↦ inr (accepts_arp bound bytes c.0 le c.1 whole)
    ]

pub decide : (bound : LenSource) (bytes : List ℕ) (kind : Kind) → IsBytes bytes → Decided bound bytes kind
decide bound bytes kinds.Ethernet2 h =
    elim (cases_lt (length bytes) 14) [
      | inl lt ↦ inl (Length 14 (length bytes) bound layers.Ethernet2Header, rows.ethernet2 lt)
      | inr le ↦ inr
          (accepts_ethernet2 bound bytes le)
    ]
decide bound bytes kinds.Ethernet2Fcs h =
    elim (cases_lt (length bytes) 18) [
      | inl lt ↦ inl (Length 18 (length bytes) bound layers.Ethernet2Header, rows.ethernet2_fcs lt)
      | inr le ↦ inr
          (accepts_ethernet2_fcs bound bytes le)
    ]
decide bound bytes kinds.LinuxSll h =
    elim (cases_lt (length bytes) 16) [
      | inl lt ↦ inl (Length 16 (length bytes) bound layers.LinuxSllHeader, rows.linux_sll lt)
      | inr le ↦
          decide_linux_sll bound bytes h le
    ]
decide bound bytes kinds.Vlan h =
    elim (cases_lt (length bytes) 4) [
      | inl lt ↦ inl (Length 4 (length bytes) bound layers.VlanHeader, rows.vlan lt)
      | inr le ↦ inr
          (accepts_vlan bound bytes le)
    ]
decide bound bytes kinds.Macsec h =
    elim (cases_lt (length bytes) 6) [
      | inl lt ↦ inl (Length 6 (length bytes) bound layers.MacsecHeader, rows.macsec lt)
      | inr le ↦ decide_macsec
          bound bytes h le
    ]
decide bound bytes kinds.Arp h =
    elim (cases_lt (length bytes) 8)
    [ inl lt ↦ inl (Length 8 (length bytes) bound layers.Arp, rows.arp lt) | inr le ↦ decide_arp bound bytes h le ]

-- ---- no two rows hold together

pub one_row : (bound : LenSource) (bytes : List ℕ) (kind : Kind) (r s : Refusal) → Refuses bound bytes kind r
    → Refuses bound bytes kind s → r ≡ s
one_row bound bytes kinds.Ethernet2 r s (rows.ethernet2 a) (rows.ethernet2 b) = refl
one_row bound bytes kinds.Ethernet2Fcs r s (rows.ethernet2_fcs a) (rows.ethernet2_fcs b) = refl
one_row bound bytes kinds.Vlan r s (rows.vlan a) (rows.vlan b) = refl
one_row bound bytes kinds.LinuxSll r1 r2 (rows.linux_sll i) (rows.linux_sll j) = refl
one_row bound bytes kinds.LinuxSll r1 r2 (rows.linux_sll i) (rows.linux_sll_packet_type u j c w) = absurd (omega arith)
one_row bound bytes kinds.LinuxSll r1 r2 (rows.linux_sll i) (rows.linux_sll_hardware_type u j c w z) =
    absurd (omega arith)
one_row bound bytes kinds.LinuxSll r1 r2 (rows.linux_sll_packet_type t i b v) (rows.linux_sll j) = absurd (omega arith)
one_row bound bytes kinds.LinuxSll r1 r2 (rows.linux_sll_packet_type t i b v) (rows.linux_sll_packet_type u j c w) =
    ap (λ (x : LinuxSllValue). UnsupportedPacketType x.packet_type) (one_linux_sll bytes t u b c)
one_row bound bytes kinds.LinuxSll r1 r2 (rows.linux_sll_packet_type t i b v) (rows.linux_sll_hardware_type u j c w z) =
    let e = ap (λ (x : LinuxSllValue). x.packet_type) (one_linux_sll bytes t u b c) in absurd (omega arith)
one_row bound bytes kinds.LinuxSll r1 r2 (rows.linux_sll_hardware_type t i b v s) (rows.linux_sll j) =
    absurd (omega arith)
one_row bound bytes kinds.LinuxSll r1 r2 (rows.linux_sll_hardware_type t i b v s) (rows.linux_sll_packet_type u j c w) =
    let e = ap (λ (x : LinuxSllValue). x.packet_type) (one_linux_sll bytes t u b c) in absurd (omega arith)
one_row bound bytes kinds.LinuxSll r1 r2 (rows.linux_sll_hardware_type t i b v s)
    (rows.linux_sll_hardware_type u j c w z) =
    ap (λ (x : LinuxSllValue). UnsupportedHardwareType x.hardware_type) (one_linux_sll bytes t u b c)
one_row bound bytes kinds.Macsec r1 r2 (rows.macsec i) (rows.macsec j) = refl
one_row bound bytes kinds.Macsec r1 r2 (rows.macsec i) (rows.macsec_version u j6 c w) = absurd (omega arith)
one_row bound bytes kinds.Macsec r1 r2 (rows.macsec i) (rows.macsec_short_len u j6 c w z) = absurd (omega arith)
one_row bound bytes kinds.Macsec r1 r2 (rows.macsec i) (rows.macsec_header u j6 c w z j) = absurd (omega arith)
one_row bound bytes kinds.Macsec r1 r2 (rows.macsec i) (rows.macsec_packet u q c w z jh j) = absurd (omega arith)
one_row bound bytes kinds.Macsec r1 r2 (rows.macsec_version t i6 b v) (rows.macsec j) = absurd (omega arith)
one_row bound bytes kinds.Macsec r1 r2 (rows.macsec_version t i6 b v) (rows.macsec_version u j6 c w) = refl
one_row bound bytes kinds.Macsec r1 r2 (rows.macsec_version t i6 b v) (rows.macsec_short_len u j6 c w z) =
    let e = ap (λ (x : SecTagFront). x.version) (one_sec_tag_front bytes t u b c) in absurd (omega arith)
one_row bound bytes kinds.Macsec r1 r2 (rows.macsec_version t i6 b v) (rows.macsec_header u j6 c w z j) =
    let e = ap (λ (x : SecTagFront). x.version) (one_sec_tag_front bytes t u b c) in absurd (omega arith)
one_row bound bytes kinds.Macsec r1 r2 (rows.macsec_version t i6 b v) (rows.macsec_packet u q c w z jh j) =
    let e = ap (λ (x : SecTagFront). x.version) (one_sec_tag_front bytes t u b c) in absurd (omega arith)
one_row bound bytes kinds.Macsec r1 r2 (rows.macsec_short_len t i6 b v s) (rows.macsec j) = absurd (omega arith)
one_row bound bytes kinds.Macsec r1 r2 (rows.macsec_short_len t i6 b v s) (rows.macsec_version u j6 c w) =
    let e = ap (λ (x : SecTagFront). x.version) (one_sec_tag_front bytes t u b c) in absurd (omega arith)
one_row bound bytes kinds.Macsec r1 r2 (rows.macsec_short_len t i6 b v s) (rows.macsec_short_len u j6 c w z) = refl
one_row bound bytes kinds.Macsec r1 r2 (rows.macsec_short_len t i6 b v s) (rows.macsec_header u j6 c w z j) =
    absurd (z (subst IsTooShort (one_sec_tag_front bytes t u b c) s))
one_row bound bytes kinds.Macsec r1 r2 (rows.macsec_short_len t i6 b v s) (rows.macsec_packet u q c w z jh j) =
    let f : None ≡ Some q = sym (too_short_unknown t s) ∙ ap known_payload_len (one_sec_tag_front bytes t u b c) ∙ z in
    absurd cc
one_row bound bytes kinds.Macsec r1 r2 (rows.macsec_header t i6 b v s i) (rows.macsec j) = absurd (omega arith)
one_row bound bytes kinds.Macsec r1 r2 (rows.macsec_header t i6 b v s i) (rows.macsec_version u j6 c w) =
    let e = ap (λ (x : SecTagFront). x.version) (one_sec_tag_front bytes t u b c) in absurd (omega arith)
one_row bound bytes kinds.Macsec r1 r2 (rows.macsec_header t i6 b v s i) (rows.macsec_short_len u j6 c w z) =
    absurd (s (subst IsTooShort (one_sec_tag_front bytes u t c b) z))
one_row bound bytes kinds.Macsec r1 r2 (rows.macsec_header t i6 b v s i) (rows.macsec_header u j6 c w z j) =
    ap (λ (x : SecTagFront). Length (sec_tag_len x) (length bytes) bound layers.MacsecHeader)
    (one_sec_tag_front bytes t u b c)
one_row bound bytes kinds.Macsec r1 r2 (rows.macsec_header t i6 b v s i) (rows.macsec_packet u q c w z jh j) =
    let l = ap sec_tag_len (one_sec_tag_front bytes t u b c) in absurd (omega arith)
one_row bound bytes kinds.Macsec r1 r2 (rows.macsec_packet t p b v s ih i) (rows.macsec j) = absurd (omega arith)
one_row bound bytes kinds.Macsec r1 r2 (rows.macsec_packet t p b v s ih i) (rows.macsec_version u j6 c w) =
    let e = ap (λ (x : SecTagFront). x.version) (one_sec_tag_front bytes t u b c) in absurd (omega arith)
one_row bound bytes kinds.Macsec r1 r2 (rows.macsec_packet t p b v s ih i) (rows.macsec_short_len u j6 c w z) =
    let f : None ≡ Some p = sym (too_short_unknown u z) ∙ ap known_payload_len (one_sec_tag_front bytes u t c b) ∙ s in
    absurd cc
one_row bound bytes kinds.Macsec r1 r2 (rows.macsec_packet t p b v s ih i) (rows.macsec_header u j6 c w z j) =
    let l = ap sec_tag_len (one_sec_tag_front bytes t u b c) in absurd (omega arith)
one_row bound bytes kinds.Macsec r1 r2 (rows.macsec_packet t p b v s ih i) (rows.macsec_packet u q c w z jh j) =
    let e = one_sec_tag_front bytes t u b c in
    let f : Some p ≡ Some q = sym s ∙ ap known_payload_len e ∙ z in
    let g : p ≡ q = cc in
    let l = ap sec_tag_len e in
    ap (λ (n : ℕ). Length n (length bytes) sources.MacsecShortLength layers.MacsecPacket) (omega arith)
one_row bound bytes kinds.Arp r s (rows.arp a) (rows.arp b) = refl
one_row bound bytes kinds.Arp r s (rows.arp a) (rows.arp_addresses u k b lt) = absurd (omega arith)
one_row bound bytes kinds.Arp r s (rows.arp_addresses t k a lt) (rows.arp b) = absurd (omega arith)
one_row bound bytes kinds.Arp r s (rows.arp_addresses t k a lt) (rows.arp_addresses u l b lu) =
    ap (λ (x : ArpFront). Length (arp_len x) (length bytes) sources.ArpAddrLengths layers.Arp)
    (one_arp_front bytes t u a b)

-- ---- rows that refuse a length

pub row_short : (bound source : LenSource) (bytes : List ℕ) (kind : Kind) (required n : ℕ) (layer : Layer)
    → Refuses bound bytes kind (Length required n source layer) → (n ≡ length bytes) × (n < required)
row_short bound source bytes kind required n layer (rows.ethernet2 lt) = (refl, lt)
row_short bound source bytes kind required n layer (rows.ethernet2_fcs lt) = (refl, lt)
row_short bound source bytes kind required n layer (rows.linux_sll lt) = (refl, lt)
row_short bound source bytes kind required n layer (rows.vlan lt) = (refl, lt)
row_short bound source bytes kind required n layer (rows.macsec lt) = (refl, lt)
row_short bound source bytes kind required n layer (rows.macsec_header t six begins version short lt) = (refl, lt)
row_short bound source bytes kind required n layer (rows.macsec_packet t p begins version known whole lt) = (refl, lt)
row_short bound source bytes kind required n layer (rows.arp lt) = (refl, lt)
row_short bound source bytes kind required n layer (rows.arp_addresses a eight begins lt) = (refl, lt)
