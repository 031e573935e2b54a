-- What a list of bytes begins with, and a list that has more bytes after them.
use Rattle.std.proofs.Common.{◌≡◌, ℕ, ◌+◌, ◌<◌, ◌≤◌, List, ◌++◌, length, sym, ap, subst, ◌∙◌, arith, inl, inr}
use Rattle.std.specs.Prelude.{Some, None}
use Rattle.std.proofs.lemmas.Bool.{cases_lt}
use Rattle.std.proofs.lemmas.List.{length-append}
use Rattle.etherparse.specs.Types.LenSource.{LenSource}
use Rattle.etherparse.specs.Types.LenSource.TheVariants as sources
use Rattle.etherparse.specs.Types.Layer.TheVariants as layers
use Rattle.etherparse.specs.Bytes.{number}
use Rattle.etherparse.specs.LinuxSll.{LinuxSllValue, BeginsLinuxSll}
use Rattle.etherparse.specs.Macsec.{SecTagFront, BeginsSecTag, sec_tag_len, known_payload_len}
use Rattle.etherparse.specs.Arp.{ArpFront, BeginsArp, arp_len}
use Rattle.etherparse.specs.Kind.{Kind}
use Rattle.etherparse.specs.Kind as kinds
use Rattle.etherparse.specs.Header.{Header, header_len, Spells, Means}
use Rattle.etherparse.specs.Refusal.{Refusal, Length, UnsupportedPacketType, UnsupportedHardwareType, UnexpectedVersion, InvalidShortLen, IsTooShort, Refuses, Accepts}
use Rattle.etherparse.specs.Refusal as rows
use Rattle.etherparse.proofs.SubLists.{part-append}
use Rattle.etherparse.proofs.Rows.{too_short_unknown}

-- ---- fronts

pub sec_tag_longer : (bytes more : List ℕ) (t : SecTagFront) → 2 ≤ length bytes → BeginsSecTag bytes t
    → BeginsSecTag (bytes ++ more) t
sec_tag_longer bytes more t le b = record {
  sum = ap number (part-append bytes more 0 2 (omega arith) le) ∙ b.sum;
  fits = b.fits;
}

sec_tag_shorter : (bytes more : List ℕ) (t : SecTagFront) → 2 ≤ length bytes → BeginsSecTag (bytes ++ more) t
    → BeginsSecTag bytes t
sec_tag_shorter bytes more t le b = record {
  sum = ap number (sym (part-append bytes more 0 2 (omega arith) le)) ∙ b.sum;
  fits = b.fits;
}

linux_sll_longer : (bytes more : List ℕ) (s : LinuxSllValue) → 16 ≤ length bytes → BeginsLinuxSll bytes s
    → BeginsLinuxSll (bytes ++ more) s
linux_sll_longer bytes more s le b = record {
  sum = ap number (part-append bytes more 0 16 (omega arith) le) ∙ b.sum;
  fits = b.fits;
}

linux_sll_shorter : (bytes more : List ℕ) (s : LinuxSllValue) → 16 ≤ length bytes → BeginsLinuxSll (bytes ++ more) s
    → BeginsLinuxSll bytes s
linux_sll_shorter bytes more s le b = record {
  sum = ap number (sym (part-append bytes more 0 16 (omega arith) le)) ∙ b.sum;
  fits = b.fits;
}

pub arp_longer : (bytes more : List ℕ) (a : ArpFront) → 8 ≤ length bytes → BeginsArp bytes a
    → BeginsArp (bytes ++ more) a
arp_longer bytes more a le b = record {
  sum = ap number (part-append bytes more 0 8 (omega arith) le) ∙ b.sum;
  fits = b.fits;
}

arp_shorter : (bytes more : List ℕ) (a : ArpFront) → 8 ≤ length bytes → BeginsArp (bytes ++ more) a → BeginsArp bytes a
arp_shorter bytes more a le b = record {
  sum = ap number (sym (part-append bytes more 0 8 (omega arith) le)) ∙ b.sum;
  fits = b.fits;
}

-- ---- headers

pub means_longer : (bytes more : List ℕ) (h : Header) → Means bytes h → Means (bytes ++ more) h
means_longer bytes more h m = record {
  whole = let k = m.whole in omega (arith, length-append bytes more);
  spells =
      subst (λ (s : List ℕ). Spells s h) (sym (part-append bytes more 0 (header_len h) (omega arith) m.whole)) m.spells;
}

-- ---- rows

-- a tag that names its payload's length is not too short
pub known_long : (t : SecTagFront) (p : ℕ) → known_payload_len t ≡ Some p → IsTooShort t → ⊥
known_long t p e s = let f : None ≡ Some p = sym (too_short_unknown t s) ∙ e in absurd cc

-- what is accepted stays accepted
pub accepts_longer : (bound : LenSource) (bytes more : List ℕ) (kind : Kind) → Accepts bound bytes kind
    → Accepts bound (bytes ++ more) kind
accepts_longer bound bytes more kinds.Ethernet2 ok r (rows.ethernet2 lt) =
    ok _ (rows.ethernet2 (omega (arith, length-append bytes more)))
accepts_longer bound bytes more kinds.Ethernet2Fcs ok r (rows.ethernet2_fcs lt) =
    ok _ (rows.ethernet2_fcs (omega (arith, length-append bytes more)))
accepts_longer bound bytes more kinds.Vlan ok r (rows.vlan lt) =
    ok _ (rows.vlan (omega (arith, length-append bytes more)))
accepts_longer bound bytes more kinds.LinuxSll ok r (rows.linux_sll lt) =
    ok _ (rows.linux_sll (omega (arith, length-append bytes more)))
accepts_longer bound bytes more kinds.LinuxSll ok r (rows.linux_sll_packet_type s le b p) =
    elim (cases_lt (length bytes) 16) [
      | inl lt ↦ ok _ (rows.linux_sll lt)
      | inr k ↦ ok _
          (rows.linux_sll_packet_type s k (linux_sll_shorter bytes more s k b) p)
    ]
accepts_longer bound bytes more kinds.LinuxSll ok r (rows.linux_sll_hardware_type s le b p e) =
    elim (cases_lt (length bytes) 16) [
      | inl lt ↦ ok _ (rows.linux_sll lt)
      | inr k ↦ ok _
          (rows.linux_sll_hardware_type s k (linux_sll_shorter bytes more s k b) p e)
    ]
accepts_longer bound bytes more kinds.Macsec ok r (rows.macsec lt) =
    ok _ (rows.macsec (omega (arith, length-append bytes more)))
accepts_longer bound bytes more kinds.Macsec ok r (rows.macsec_version t six b v) =
    elim (cases_lt (length bytes) 6) [
      | inl lt ↦ ok _ (rows.macsec lt)
      | inr k ↦ ok _
          (rows.macsec_version t k (sec_tag_shorter bytes more t (omega arith) b) v)
    ]
accepts_longer bound bytes more kinds.Macsec ok r (rows.macsec_short_len t six b v s) =
    elim (cases_lt (length bytes) 6) [
      | inl lt ↦ ok _ (rows.macsec lt)
      | inr k ↦ ok _
          (rows.macsec_short_len t k (sec_tag_shorter bytes more t (omega arith) b) v s)
    ]
accepts_longer bound bytes more kinds.Macsec ok r (rows.macsec_header t six b v s lt) =
    elim (cases_lt (length bytes) 6) [
      | inl few ↦ ok _ (rows.macsec few)
      | inr k ↦ ok _
          (rows.macsec_header t k (sec_tag_shorter bytes more t (omega arith) b) v s
          (omega (arith, length-append bytes more)))
    ]
accepts_longer bound bytes more kinds.Macsec ok r (rows.macsec_packet t p b v e le lt) =
    elim (cases_lt (length bytes) 6) [
      | inl few ↦ ok _ (rows.macsec few)
      | inr k ↦
          let begins = sec_tag_shorter bytes more t (omega arith) b in
          elim (cases_lt (length bytes) (sec_tag_len t)) [
            | inl few ↦ ok _ (rows.macsec_header t k begins v (known_long t p e) few)
            | inr whole ↦ ok _ (rows.macsec_packet t p begins v e whole (omega (arith, length-append bytes more)))
          ]
    ]
accepts_longer bound bytes more kinds.Arp ok r (rows.arp lt) = ok _ (rows.arp (omega (arith, length-append bytes more)))
accepts_longer bound bytes more kinds.Arp ok r (rows.arp_addresses a le b lt) =
    elim (cases_lt (length bytes) 8) [
      | inl few ↦ ok _ (rows.arp few)
      | inr k ↦ ok _
          (rows.arp_addresses a k (arp_shorter bytes more a k b) (omega (arith, length-append bytes more)))
    ]

-- the refusal if there are n bytes more
abbrev pub longer : ℕ → Refusal → Refusal
longer n (Length required len source layer) = Length required (len + n) source layer
longer n (UnsupportedPacketType p) = UnsupportedPacketType p
longer n (UnsupportedHardwareType h) = UnsupportedHardwareType h
longer n UnexpectedVersion = UnexpectedVersion
longer n InvalidShortLen = InvalidShortLen

-- k bytes are fewer than are required, if a length is required
abbrev pub IsBelow : ℕ → Refusal → Type 0
IsBelow k (Length required len source layer) = k < required
IsBelow k (UnsupportedPacketType p) = Unit {0}
IsBelow k (UnsupportedHardwareType h) = Unit {0}
IsBelow k UnexpectedVersion = Unit {0}
IsBelow k InvalidShortLen = Unit {0}

-- what is refused stays refused so, until the required length is there
pub refuses_longer : (bound : LenSource) (bytes more : List ℕ) (kind : Kind) (r : Refusal) → Refuses bound bytes kind r
    → IsBelow (length bytes + length more) r → Refuses bound (bytes ++ more) kind (longer (length more) r)
refuses_longer bound bytes more kinds.Ethernet2 r (rows.ethernet2 lt) few =
    subst (λ (n : ℕ). Refuses bound (bytes ++ more) kinds.Ethernet2 (Length 14 n bound layers.Ethernet2Header))
    (length-append bytes more) (rows.ethernet2 (omega (arith, length-append bytes more)))
refuses_longer bound bytes more kinds.Ethernet2Fcs r (rows.ethernet2_fcs lt) few =
    subst (λ (n : ℕ). Refuses bound (bytes ++ more) kinds.Ethernet2Fcs (Length 18 n bound layers.Ethernet2Header))
    (length-append bytes more) (rows.ethernet2_fcs (omega (arith, length-append bytes more)))
refuses_longer bound bytes more kinds.Vlan r (rows.vlan lt) few =
    subst (λ (n : ℕ). Refuses bound (bytes ++ more) kinds.Vlan (Length 4 n bound layers.VlanHeader))
    (length-append bytes more) (rows.vlan (omega (arith, length-append bytes more)))
refuses_longer bound bytes more kinds.LinuxSll r (rows.linux_sll lt) few =
    subst (λ (n : ℕ). Refuses bound (bytes ++ more) kinds.LinuxSll (Length 16 n bound layers.LinuxSllHeader))
    (length-append bytes more) (rows.linux_sll (omega (arith, length-append bytes more)))
refuses_longer bound bytes more kinds.LinuxSll r (rows.linux_sll_packet_type s le b p) few =
    rows.linux_sll_packet_type s (omega (arith, length-append bytes more)) (linux_sll_longer bytes more s le b) p
refuses_longer bound bytes more kinds.LinuxSll r (rows.linux_sll_hardware_type s le b p e) few =
    rows.linux_sll_hardware_type s (omega (arith, length-append bytes more)) (linux_sll_longer bytes more s le b) p e
refuses_longer bound bytes more kinds.Macsec r (rows.macsec lt) few =
    subst (λ (n : ℕ). Refuses bound (bytes ++ more) kinds.Macsec (Length 6 n bound layers.MacsecHeader))
    (length-append bytes more) (rows.macsec (omega (arith, length-append bytes more)))
refuses_longer bound bytes more kinds.Macsec r (rows.macsec_version t six b v) few =
    rows.macsec_version t (omega (arith, length-append bytes more)) (sec_tag_longer bytes more t (omega arith) b) v
refuses_longer bound bytes more kinds.Macsec r (rows.macsec_short_len t six b v s) few =
    rows.macsec_short_len t (omega (arith, length-append bytes more)) (sec_tag_longer bytes more t (omega arith) b) v s
refuses_longer bound bytes more kinds.Macsec r (rows.macsec_header t six b v s lt) few =
    subst (λ (n : ℕ). Refuses bound (bytes ++ more) kinds.Macsec (Length (sec_tag_len t) n bound layers.MacsecHeader))
    (length-append bytes more)
    (rows.macsec_header t (omega (arith, length-append bytes more)) (sec_tag_longer bytes more t (omega arith) b) v s
    (omega (arith, length-append bytes more)))
refuses_longer bound bytes more kinds.Macsec r (rows.macsec_packet t p b v e le lt) few =
    subst
    (λ (n : ℕ).
    Refuses bound (bytes ++ more) kinds.Macsec
    (Length (sec_tag_len t + p) n sources.MacsecShortLength layers.MacsecPacket))
    (length-append bytes more)
    (rows.macsec_packet t p (sec_tag_longer bytes more t (omega arith) b) v e (omega (arith, length-append bytes more))
    (omega (arith, length-append bytes more)))
refuses_longer bound bytes more kinds.Arp r (rows.arp lt) few =
    subst (λ (n : ℕ). Refuses bound (bytes ++ more) kinds.Arp (Length 8 n bound layers.Arp)) (length-append bytes more)
    (rows.arp (omega (arith, length-append bytes more)))
refuses_longer bound bytes more kinds.Arp r (rows.arp_addresses a le b lt) few =
    subst (λ (n : ℕ). Refuses bound (bytes ++ more) kinds.Arp (Length (arp_len a) n sources.ArpAddrLengths layers.Arp))
    (length-append bytes more)
    (rows.arp_addresses a (omega (arith, length-append bytes more)) (arp_longer bytes more a le b)
    (omega (arith, length-append bytes more)))
