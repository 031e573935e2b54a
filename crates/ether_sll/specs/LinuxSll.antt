-- Headers of cooked capture as values of the wire format, their refusals as rows of the table, and what bytes say
-- beyond the numbers of their header.
use Rattle.std.specs.Prelude.{ℕ, List, ◌≡◌, ◌+◌, ◌≤◌, length, slice_range, min, true, Result, Ok, MatchResult}
use Rattle.ether_base.specs.Bytes.{number}
use Rattle.ether_base.specs.Formats.LinuxSll.{LinuxSllValue, IsLinuxSll, linux_sll_of, is_supported}
use Rattle.ether_base.specs.Formats.LinuxSllProtocolType.{protocol_number, protocol_of, protocol_type_of}
use Rattle.ether_sll.specs.declared.linux_sll_header.LinuxSllHeader.{LinuxSllHeader}
use Rattle.ether_base.specs.declared.len_source.LenSource.TheVariants as sources
use Rattle.ether_base.specs.declared.err.linux_sll.header_error.HeaderError.{HeaderError}
use Rattle.ether_base.specs.declared.err.linux_sll.header_error.HeaderError.TheVariants.{UnsupportedPacketTypeField, UnsupportedArpHardwareId}
use Rattle.ether_base.specs.declared.header_slice_error.HeaderSliceError.{HeaderSliceError}
use Rattle.ether_base.specs.declared.header_slice_error.HeaderSliceError.TheVariants.{Len, Content}
use Rattle.ether_base.specs.Formats.Kind as kinds
use Rattle.ether_base.specs.Formats.Refusal.{UnsupportedPacketType, UnsupportedHardwareType, Refuses, Accepts}
use Rattle.ether_base.specs.Formats.RefusedLen.{IsRefusedLen}
use Rattle.ether_base.specs.declared.linux_sll_protocol_type.LinuxSllProtocolType.{LinuxSllProtocolType}

-- the address as the number of its bytes
abbrev pub linux_sll_value : (packet_type hardware_type address_len : ℕ) (address : List ℕ) (protocol : ℕ)
    → LinuxSllValue
linux_sll_value packet_type hardware_type address_len address protocol = record {
  packet_type = packet_type;
  hardware_type = hardware_type;
  address_len = address_len;
  address = number address;
  protocol = protocol;
}

-- the protocol type as its number
abbrev pub linux_sll_view : LinuxSllHeader → LinuxSllValue
linux_sll_view h =
    linux_sll_value h.packet_type h.arp_hrd_type.0 h.sender_address_valid_length h.sender_address
    (protocol_number h.protocol_type)

-- ---- refusals

-- the contents are refused, with the number that is not supported
abbrev pub IsRefusedContent : List ℕ → HeaderError → Type 0
IsRefusedContent bytes (UnsupportedPacketTypeField number) =
    Refuses sources.Slice bytes kinds.LinuxSll (UnsupportedPacketType number)
IsRefusedContent bytes (UnsupportedArpHardwareId hardware) =
    Refuses sources.Slice bytes kinds.LinuxSll (UnsupportedHardwareType hardware.0)

-- a slice is refused as a cooked capture
abbrev pub IsRefusedSll : List ℕ → HeaderSliceError HeaderError → Type 0
IsRefusedSll bytes (Len error) = IsRefusedLen bytes kinds.LinuxSll error
IsRefusedSll bytes (Content error) = IsRefusedContent bytes error

-- ---- reading

-- bytes that begin with a header whose packet type and hardware type are supported
abbrev pub HoldsLinuxSll : List ℕ → Type 0
HoldsLinuxSll bytes =
    (16 ≤ length bytes) × ((linux_sll_of bytes).packet_type ≤ 7)
    × (is_supported (linux_sll_of bytes).hardware_type ≡ true)

-- the protocol number, read according to the hardware type
abbrev pub protocol_type_of_header : List ℕ → LinuxSllProtocolType
protocol_type_of_header bytes = protocol_of (linux_sll_of bytes).hardware_type (linux_sll_of bytes).protocol

-- the bytes of the address field that the header counts as valid, at most eight
abbrev pub valid_address : List ℕ → List ℕ
valid_address bytes = slice_range bytes 6 (6 + min (linux_sll_of bytes).address_len 8)

-- the hardware type is supported, and its protocol number means this protocol type
abbrev pub HasOwnType : LinuxSllHeader → Type 0
HasOwnType h = protocol_type_of h.arp_hrd_type (protocol_number h.protocol_type) ≡ Ok h.protocol_type

-- sixteen bytes hold a header
pub record HoldsHeader (bytes : List ℕ) (h : LinuxSllHeader) : Type 0 where
  pub accepted : Accepts sources.Slice bytes kinds.LinuxSll
  pub value : IsLinuxSll bytes (linux_sll_view h)
  pub address : h.sender_address ≡ slice_range bytes 6 14
  pub protocol : h.protocol_type ≡ protocol_type_of_header bytes

-- what reading sixteen bytes returns: the header that they hold, or the row that refuses them
abbrev pub AnswersHeader : List ℕ → Result LinuxSllHeader HeaderError → Type 0
AnswersHeader bytes result = MatchResult result (HoldsHeader bytes) (IsRefusedContent bytes)
