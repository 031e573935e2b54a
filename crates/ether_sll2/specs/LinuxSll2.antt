-- The header of Linux cooked capture, version 2 (LINKTYPE_LINUX_SLL2 of the tcpdump group), its refusals, and what its
-- protocol number means.
use Rattle.std.specs.Prelude.{◌≡◌, ℕ, ◌+◌, ◌*◌, ◌^◌, ◌<◌, ◌≤◌, List, [], ◌∷◌, length, slice_range, ◌==◌, if◌then◌else◌}
use Rattle.ether_base.specs.declared.linux_sll_protocol_type.LinuxSllProtocolType.{LinuxSllProtocolType}
use Rattle.ether_base.specs.declared.linux_sll_protocol_type.LinuxSllProtocolType.TheVariants.{Ignored, NetlinkProtocolType, GenericRoutingEncapsulationProtocolType}
use Rattle.ether_base.specs.Bytes.{number, spelled, overwritten}
use Rattle.ether_base.specs.Formats.LinuxSllProtocolType.{ethernet_protocol_type}

-- the reserved number is no part of it
pub record LinuxSll2Value : Type 0 where
  pub protocol : ℕ
  pub interface_index : ℕ
  pub hardware_type : ℕ
  pub packet_type : ℕ
  pub address_len : ℕ
  pub address : ℕ

-- protocol type 2 bytes, reserved 2 bytes, interface index 4 bytes, ARPHRD_ type 2 bytes, packet type 1 byte, address
-- length 1 byte, address 8 bytes
abbrev pub linux_sll2_number : (reserved : ℕ) → LinuxSll2Value → ℕ
linux_sll2_number reserved s =
    s.protocol * 2 ^ 144 + reserved * 2 ^ 128 + s.interface_index * 2 ^ 96 + s.hardware_type * 2 ^ 80 + s.packet_type
    * 2 ^ 72 + s.address_len * 2 ^ 64 + s.address

pub record FitsLinuxSll2 (s : LinuxSll2Value) : Type 0 where
  pub protocol : s.protocol < 2 ^ 16
  pub interface_index : s.interface_index < 2 ^ 32
  pub hardware_type : s.hardware_type < 2 ^ 16
  pub packet_type : s.packet_type < 2 ^ 8
  pub address_len : s.address_len < 2 ^ 8
  pub address : s.address < 2 ^ 64

-- twenty bytes mean a value, whatever the reserved number is
pub record IsLinuxSll2 (bytes : List ℕ) (s : LinuxSll2Value) : Type 0 where
  pub reserved : ℕ
  pub sum : number bytes ≡ linux_sll2_number reserved s
  pub fits : FitsLinuxSll2 s
  pub reserved_fits : reserved < 2 ^ 16

-- a list begins with the twenty bytes of a value
pub record BeginsLinuxSll2 (bytes : List ℕ) (s : LinuxSll2Value) : Type 0 where
  pub whole : 20 ≤ length bytes
  pub spells : IsLinuxSll2 (slice_range bytes 0 20) s

-- the twenty bytes of a value, with the reserved number 0
abbrev pub linux_sll2_bytes : LinuxSll2Value → List ℕ
linux_sll2_bytes s = spelled 20 (linux_sll2_number 0 s)

-- bytes in which the two reserved ones are 0
abbrev pub cleared : List ℕ → List ℕ
cleared bytes = overwritten bytes 2 (0 ∷ 0 ∷ [])

-- the value in a list of at least twenty bytes
abbrev pub linux_sll2_of : List ℕ → LinuxSll2Value
linux_sll2_of bytes = record {
  protocol = number (slice_range bytes 0 2);
  interface_index = number (slice_range bytes 4 8);
  hardware_type = number (slice_range bytes 8 10);
  packet_type = number (slice_range bytes 10 11);
  address_len = number (slice_range bytes 11 12);
  address = number (slice_range bytes 12 20);
}

-- ---- refusals

-- the bytes that are required and those that are there, or the packet type that is not supported
pub data LinuxSll2Refusal : Type 0 where
  Short : (required len : ℕ) → LinuxSll2Refusal
  PacketType : ℕ → LinuxSll2Refusal

-- The rows. Packet types are those of Linux, 0 to 7 (PACKET_ in its if_packet.h); the format names 0 to 4 of them. No
-- hardware type is refused.
pub data RefusesLinuxSll2 (bytes : List ℕ) : LinuxSll2Refusal → Type 0 where
  short : length bytes < 20 → RefusesLinuxSll2 bytes (Short 20 (length bytes))
  packet_type : (s : LinuxSll2Value) → BeginsLinuxSll2 bytes s → 7 < s.packet_type
      → RefusesLinuxSll2 bytes (PacketType s.packet_type)

-- no row holds
abbrev pub AcceptsLinuxSll2 : List ℕ → Type 0
AcceptsLinuxSll2 bytes = (r : LinuxSll2Refusal) → RefusesLinuxSll2 bytes r → ⊥

-- ---- protocols

-- What a protocol number means, by the hardware type of the link: 824 netlink and 778 GRE over IP give it a meaning of
-- their own, 803 radiotap and 770 frame relay give it none; on any other link it is an ether type, or a number that
-- Linux has below these.
abbrev pub protocol_on : (hardware number : ℕ) → LinuxSllProtocolType
protocol_on hardware number =
    if hardware == 824 then NetlinkProtocolType number
    else (if hardware == 778 then GenericRoutingEncapsulationProtocolType number
    else (if hardware == 803 then Ignored number
    else (if hardware == 770 then Ignored number
    else ethernet_protocol_type number)))

abbrev pub protocol_of_header : List ℕ → LinuxSllProtocolType
protocol_of_header bytes = protocol_on (linux_sll2_of bytes).hardware_type (linux_sll2_of bytes).protocol
