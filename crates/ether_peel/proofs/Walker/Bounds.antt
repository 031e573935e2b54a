-- Rows of the table of refusals for bytes with one bound, and for the same bytes with another.
use Rattle.std.proofs.Common.{◌≡◌, ℕ, ◌+◌, List, length, refl, sym, ap, subst}
use Rattle.etherparse.specs.Types.LenSource.{LenSource}
use Rattle.etherparse.specs.Types.LenSource.TheVariants as sources
use Rattle.etherparse.specs.Types.Layer.{Layer}
use Rattle.etherparse.specs.Types.Layer.TheVariants as layers
use Rattle.etherparse.specs.Macsec.{sec_tag_len}
use Rattle.etherparse.specs.Arp.{arp_len}
use Rattle.etherparse.specs.Kind.{Kind}
use Rattle.etherparse.specs.Kind as kinds
use Rattle.etherparse.specs.Refusal.{Refusal, Length, UnsupportedPacketType, UnsupportedHardwareType, UnexpectedVersion, InvalidShortLen, Refuses, Accepts}
use Rattle.etherparse.specs.Refusal as rows
use Rattle.ether_peel.specs.Walker.Fault.{error_at}
use Rattle.ether_peel.specs.Walker.Reading.{named_source, named_error}

-- a refusal that names a slice names this bound instead
abbrev pub named : LenSource → Refusal → Refusal
named bound (Length required len source layer) = Length required len (named_source bound source) layer
named bound (UnsupportedPacketType n) = UnsupportedPacketType n
named bound (UnsupportedHardwareType n) = UnsupportedHardwareType n
named bound UnexpectedVersion = UnexpectedVersion
named bound InvalidShortLen = InvalidShortLen

-- the same row for another bound
record Bounded (old new : LenSource) (bytes : List ℕ) (kind : Kind) (r : Refusal) : Type 0 where
  pub other : Refusal
  pub row : Refuses new bytes kind other
  pub is : old ≡ sources.Slice → other ≡ named new r

of_bound : (old new : LenSource) (required len : ℕ) (layer : Layer) → old ≡ sources.Slice
    → Length required len new layer ≡ named new (Length required len old layer)
of_bound old new required len layer e = ap (λ (o : LenSource). Length required len (named_source new o) layer) (sym e)

bounded : (old new : LenSource) (bytes : List ℕ) (kind : Kind) (r : Refusal) → Refuses old bytes kind r
    → Bounded old new bytes kind r
bounded old new bytes kinds.Ethernet2 r (rows.ethernet2 lt) = record {
  other = Length 14 (length bytes) new layers.Ethernet2Header;
  row = rows.ethernet2 lt;
  is = of_bound old new 14 (length bytes) layers.Ethernet2Header;
}
bounded old new bytes kinds.Ethernet2Fcs r (rows.ethernet2_fcs lt) = record {
  other = Length 18 (length bytes) new layers.Ethernet2Header;
  row = rows.ethernet2_fcs lt;
  is = of_bound old new 18 (length bytes) layers.Ethernet2Header;
}
bounded old new bytes kinds.LinuxSll r (rows.linux_sll lt) = record {
  other = Length 16 (length bytes) new layers.LinuxSllHeader;
  row = rows.linux_sll lt;
  is = of_bound old new 16 (length bytes) layers.LinuxSllHeader;
}
bounded old new bytes kinds.LinuxSll r (rows.linux_sll_packet_type s le b p) = record {
  other = UnsupportedPacketType s.packet_type;
  row = rows.linux_sll_packet_type s le b p;
  is = λ e. refl;
}
bounded old new bytes kinds.LinuxSll r (rows.linux_sll_hardware_type s le b p u) = record {
  other = UnsupportedHardwareType s.hardware_type;
  row = rows.linux_sll_hardware_type s le b p u;
  is = λ e. refl;
}
bounded old new bytes kinds.Vlan r (rows.vlan lt) = record {
  other = Length 4 (length bytes) new layers.VlanHeader;
  row = rows.vlan lt;
  is = of_bound old new 4 (length bytes) layers.VlanHeader;
}
bounded old new bytes kinds.Macsec r (rows.macsec lt) = record {
  other = Length 6 (length bytes) new layers.MacsecHeader;
  row = rows.macsec lt;
  is = of_bound old new 6 (length bytes) layers.MacsecHeader;
}
bounded old new bytes kinds.Macsec r (rows.macsec_version t six b v) = record {
  other = UnexpectedVersion;
  row = rows.macsec_version t six b v;
  is = λ e. refl;
}
bounded old new bytes kinds.Macsec r (rows.macsec_short_len t six b v s) = record {
  other = InvalidShortLen;
  row = rows.macsec_short_len t six b v s;
  is = λ e. refl;
}
bounded old new bytes kinds.Macsec r (rows.macsec_header t six b v s lt) = record {
  other = Length (sec_tag_len t) (length bytes) new layers.MacsecHeader;
  row = rows.macsec_header t six b v s lt;
  is = of_bound old new (sec_tag_len t) (length bytes) layers.MacsecHeader;
}
bounded old new bytes kinds.Macsec r (rows.macsec_packet t p b v k le lt) = record {
  other = Length (sec_tag_len t + p) (length bytes) sources.MacsecShortLength layers.MacsecPacket;
  row = rows.macsec_packet t p b v k le lt;
  is = λ e. refl;
}
bounded old new bytes kinds.Arp r (rows.arp lt) = record {
  other = Length 8 (length bytes) new layers.Arp;
  row = rows.arp lt;
  is = of_bound old new 8 (length bytes) layers.Arp;
}
bounded old new bytes kinds.Arp r (rows.arp_addresses a le b lt) = record {
  other = Length (arp_len a) (length bytes) sources.ArpAddrLengths layers.Arp;
  row = rows.arp_addresses a le b lt;
  is = λ e. refl;
}

-- the row that holds of a slice, in a window with this bound
pub bounded_row : (bound : LenSource) (bytes : List ℕ) (kind : Kind) (r : Refusal) → Refuses sources.Slice bytes kind r
    → Refuses bound bytes kind (named bound r)
bounded_row bound bytes kind r row =
    let b = bounded sources.Slice bound bytes kind r row in subst (Refuses bound bytes kind) (b.is refl) b.row

pub accepts_bounded : (bound : LenSource) (bytes : List ℕ) (kind : Kind) → Accepts sources.Slice bytes kind
    → Accepts bound bytes kind
accepts_bounded bound bytes kind ok r row = let b = bounded bound sources.Slice bytes kind r row in ok b.other b.row

pub named_at : (bound : LenSource) (start : ℕ) (r : Refusal)
    → named_error bound (error_at start r) ≡ error_at start (named bound r)
named_at bound start (Length required len source layer) = refl
named_at bound start (UnsupportedPacketType n) = refl
named_at bound start (UnsupportedHardwareType n) = refl
named_at bound start UnexpectedVersion = refl
named_at bound start InvalidShortLen = refl
