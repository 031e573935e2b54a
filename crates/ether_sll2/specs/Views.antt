-- The structs and errors of this crate as values of the format, and what bytes say beyond the numbers of their header.
use Rattle.std.specs.Prelude.{ℕ, List, ◌≡◌, ◌+◌, ◌<◌, ◌≤◌, length, slice_range, min, Option, option_map, Result, MatchResult}
use Rattle.ether_base.specs.Bytes.{number}
use Rattle.ether_base.specs.Formats.LinuxSllProtocolType.{protocol_number, told_ether_type}
use Rattle.ether_peel.specs.declared.start.Start.{Start}
use Rattle.ether_peel.specs.declared.start.Start.TheVariants as starts
use Rattle.ether_sll2.specs.declared.linux_sll2_error.LinuxSll2Error.{LinuxSll2Error}
use Rattle.ether_sll2.specs.declared.linux_sll2_error.LinuxSll2Error.TheVariants as errors
use Rattle.ether_sll2.specs.declared.linux_sll2_header.LinuxSll2Header.{LinuxSll2Header}
use Rattle.ether_sll2.specs.LinuxSll2.{LinuxSll2Value, IsLinuxSll2, linux_sll2_of, LinuxSll2Refusal, Short, PacketType, RefusesLinuxSll2, AcceptsLinuxSll2, protocol_on, protocol_of_header}

-- the address as the number of its bytes
abbrev pub linux_sll2_value : (protocol interface_index hardware_type packet_type address_len : ℕ) (address : List ℕ)
    → LinuxSll2Value
linux_sll2_value protocol interface_index hardware_type packet_type address_len address = record {
  protocol = protocol;
  interface_index = interface_index;
  hardware_type = hardware_type;
  packet_type = packet_type;
  address_len = address_len;
  address = number address;
}

-- the protocol type as its number
abbrev pub linux_sll2_view : LinuxSll2Header → LinuxSll2Value
linux_sll2_view h =
    linux_sll2_value (protocol_number h.protocol_type) h.interface_index h.arp_hrd_type.0 h.packet_type
    h.sender_address_valid_length h.sender_address

-- ---- refusals

abbrev pub refusal_view : LinuxSll2Error → LinuxSll2Refusal
refusal_view (errors.Len required len) = Short required len
refusal_view (errors.PacketType n) = PacketType n

-- bytes are refused
abbrev pub IsRefusedSll2 : List ℕ → LinuxSll2Error → Type 0
IsRefusedSll2 bytes error = RefusesLinuxSll2 bytes (refusal_view error)

-- the numbers of a length error; nothing is claimed of the other error
abbrev pub IsShort : List ℕ → LinuxSll2Error → Type 0
IsShort bytes (errors.Len required len) = (required ≡ 20) × (len ≡ length bytes) × (length bytes < 20)
IsShort bytes (errors.PacketType n) = Unit {0}

-- ---- reading

-- bytes that begin with a header whose packet type is supported
abbrev pub HoldsLinuxSll2 : List ℕ → Type 0
HoldsLinuxSll2 bytes = (20 ≤ length bytes) × ((linux_sll2_of bytes).packet_type ≤ 7)

-- the bytes of the address field that the header counts as valid, at most eight
abbrev pub valid_address : List ℕ → List ℕ
valid_address bytes = slice_range bytes 12 (12 + min (linux_sll2_of bytes).address_len 8)

-- what a walk of the payload starts with: its ether type, if its protocol type has one
abbrev pub start_in : List ℕ → Option Start
start_in bytes = option_map (λ n. starts.EtherType (record { 0 = n })) (told_ether_type (protocol_of_header bytes))

-- the hardware type gives the protocol number this protocol type
abbrev pub HasOwnType : LinuxSll2Header → Type 0
HasOwnType h = protocol_on h.arp_hrd_type.0 (protocol_number h.protocol_type) ≡ h.protocol_type

-- twenty bytes hold a header
pub record HoldsHeader (bytes : List ℕ) (h : LinuxSll2Header) : Type 0 where
  pub accepted : AcceptsLinuxSll2 bytes
  pub value : IsLinuxSll2 bytes (linux_sll2_view h)
  pub address : h.sender_address ≡ slice_range bytes 12 20
  pub protocol : h.protocol_type ≡ protocol_of_header bytes

-- what reading twenty bytes returns: the header that they hold, or the row that refuses them
abbrev pub AnswersHeader : List ℕ → Result LinuxSll2Header LinuxSll2Error → Type 0
AnswersHeader bytes result = MatchResult result (HoldsHeader bytes) (IsRefusedSll2 bytes)
