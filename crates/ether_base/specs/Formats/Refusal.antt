-- The table of refusals: the bytes for which a unit of a kind is refused, and the error.
use Rattle.std.specs.Prelude.{◌≡◌, ℕ, ◌+◌, ◌<◌, ◌≤◌, List, length, Some, false}
use Rattle.ether_base.specs.declared.len_source.LenSource.{LenSource}
use Rattle.ether_base.specs.declared.len_source.LenSource.TheVariants as sources
use Rattle.ether_base.specs.declared.err.layer.Layer.{Layer}
use Rattle.ether_base.specs.declared.err.layer.Layer.TheVariants as layers
use Rattle.ether_base.specs.Formats.LinuxSll.{LinuxSllValue, BeginsLinuxSll, is_supported}
use Rattle.ether_base.specs.Formats.Macsec.{SecTagFront, BeginsSecTag, sec_tag_len, known_payload_len}
use Rattle.ether_base.specs.Formats.Arp.{ArpFront, BeginsArp, arp_len}
use Rattle.ether_base.specs.Formats.Kind.{Kind}
use Rattle.ether_base.specs.Formats.Kind as kinds

-- the bytes that are required and those that are there, or what is wrong with their content
pub data Refusal : Type 0 where
  Length : (required len : ℕ) → LenSource → Layer → Refusal
  UnsupportedPacketType : ℕ → Refusal
  UnsupportedHardwareType : ℕ → Refusal
  UnexpectedVersion : Refusal
  InvalidShortLen : Refusal

-- E and C are 0, and the short length is too small for the two bytes of the ether type that it counts (IEEE 802.1AE,
-- 9.7)
pub record IsTooShort (t : SecTagFront) : Type 0 where
  pub encrypted : t.encrypted ≡ 0
  pub changed : t.changed ≡ 0
  pub short_len : t.short_len ≡ 1

-- the rows of the table; `bound` is what gave the number of the bytes
pub data Refuses (bound : LenSource) (bytes : List ℕ) : Kind → Refusal → Type 0 where
  ethernet2 : length bytes < 14
      → Refuses bound bytes kinds.Ethernet2 (Length 14 (length bytes) bound layers.Ethernet2Header)
  ethernet2_fcs : length bytes < 18
      → Refuses bound bytes kinds.Ethernet2Fcs (Length 18 (length bytes) bound layers.Ethernet2Header)
  linux_sll : length bytes < 16
      → Refuses bound bytes kinds.LinuxSll (Length 16 (length bytes) bound layers.LinuxSllHeader)
  linux_sll_packet_type : (s : LinuxSllValue) → 16 ≤ length bytes → BeginsLinuxSll bytes s → 7 < s.packet_type
      → Refuses bound bytes kinds.LinuxSll (UnsupportedPacketType s.packet_type)
  linux_sll_hardware_type : (s : LinuxSllValue) → 16 ≤ length bytes → BeginsLinuxSll bytes s → s.packet_type ≤ 7
      → is_supported s.hardware_type ≡ false
      → Refuses bound bytes kinds.LinuxSll (UnsupportedHardwareType s.hardware_type)
  vlan : length bytes < 4 → Refuses bound bytes kinds.Vlan (Length 4 (length bytes) bound layers.VlanHeader)
  macsec : length bytes < 6 → Refuses bound bytes kinds.Macsec (Length 6 (length bytes) bound layers.MacsecHeader)
  macsec_version : (t : SecTagFront) → 6 ≤ length bytes → BeginsSecTag bytes t → t.version ≡ 1
      → Refuses bound bytes kinds.Macsec UnexpectedVersion
  macsec_short_len : (t : SecTagFront) → 6 ≤ length bytes → BeginsSecTag bytes t → t.version ≡ 0 → IsTooShort t
      → Refuses bound bytes kinds.Macsec InvalidShortLen
  macsec_header : (t : SecTagFront) → 6 ≤ length bytes → BeginsSecTag bytes t → t.version ≡ 0 → (IsTooShort t → ⊥)
      → length bytes < sec_tag_len t
      → Refuses bound bytes kinds.Macsec (Length (sec_tag_len t) (length bytes) bound layers.MacsecHeader)
  macsec_packet : (t : SecTagFront) (p : ℕ) → BeginsSecTag bytes t → t.version ≡ 0 → known_payload_len t ≡ Some p
      → sec_tag_len t ≤ length bytes → length bytes < sec_tag_len t + p
      → Refuses bound bytes kinds.Macsec
      (Length (sec_tag_len t + p) (length bytes) sources.MacsecShortLength layers.MacsecPacket)
  arp : length bytes < 8 → Refuses bound bytes kinds.Arp (Length 8 (length bytes) bound layers.Arp)
  arp_addresses : (a : ArpFront) → 8 ≤ length bytes → BeginsArp bytes a → length bytes < arp_len a
      → Refuses bound bytes kinds.Arp (Length (arp_len a) (length bytes) sources.ArpAddrLengths layers.Arp)

-- no row holds
abbrev pub Accepts : LenSource → List ℕ → Kind → Type 0
Accepts bound bytes kind = (r : Refusal) → Refuses bound bytes kind r → ⊥

-- ---- of a header alone, without the payload whose length it names

-- the row is about that payload
abbrev pub IsOfPayload : Refusal → Type 0
IsOfPayload (Length required len source layer) = layer ≡ layers.MacsecPacket
IsOfPayload (UnsupportedPacketType n) = ⊥
IsOfPayload (UnsupportedHardwareType n) = ⊥
IsOfPayload UnexpectedVersion = ⊥
IsOfPayload InvalidShortLen = ⊥

-- a row of the header holds
pub record RefusesHeader (bound : LenSource) (bytes : List ℕ) (kind : Kind) (r : Refusal) : Type 0 where
  pub row : Refuses bound bytes kind r
  pub of_header : IsOfPayload r → ⊥

-- no row of the header holds
abbrev pub AcceptsHeader : LenSource → List ℕ → Kind → Type 0
AcceptsHeader bound bytes kind = (r : Refusal) → RefusesHeader bound bytes kind r → ⊥
