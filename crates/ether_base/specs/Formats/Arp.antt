-- The packet of the Address Resolution Protocol (RFC 826, "Packet format").
use Rattle.std.specs.Prelude.{◌≡◌, ℕ, ◌+◌, ◌*◌, ◌^◌, ◌<◌, List, ◌++◌, length, slice_index, slice_range}
use Rattle.ether_base.specs.Bytes.{IsBytes, number, spelled}

-- three numbers and four addresses
pub record ArpValue : Type 0 where
  pub hardware_type : ℕ
  pub protocol_type : ℕ
  pub operation : ℕ
  pub sender_hardware : List ℕ
  pub sender_protocol : List ℕ
  pub target_hardware : List ℕ
  pub target_protocol : List ℕ

-- ---- the first eight bytes

pub record ArpFront : Type 0 where
  pub hardware_type : ℕ
  pub protocol_type : ℕ
  pub hardware_size : ℕ
  pub protocol_size : ℕ
  pub operation : ℕ

-- hardware type 2 bytes, protocol type 2 bytes, the two sizes 1 byte each, operation 2 bytes
abbrev pub arp_front_number : ArpFront → ℕ
arp_front_number a = a.hardware_type * 2 ^ 48 + a.protocol_type * 2 ^ 32 + a.hardware_size * 2 ^ 24 + a.protocol_size
    * 2 ^ 16 + a.operation

pub record FitsArpFront (a : ArpFront) : Type 0 where
  pub hardware_type : a.hardware_type < 2 ^ 16
  pub protocol_type : a.protocol_type < 2 ^ 16
  pub hardware_size : a.hardware_size < 256
  pub protocol_size : a.protocol_size < 256
  pub operation : a.operation < 2 ^ 16

-- a list begins with eight bytes that mean a front
pub record BeginsArp (bytes : List ℕ) (a : ArpFront) : Type 0 where
  pub sum : number (slice_range bytes 0 8) ≡ arp_front_number a
  pub fits : FitsArpFront a

-- a packet's length, 8 to 1028
abbrev pub arp_len : ArpFront → ℕ
arp_len a = 8 + 2 * a.hardware_size + 2 * a.protocol_size

-- ---- the whole packet

abbrev pub arp_front_of : ArpValue → ArpFront
arp_front_of a = record {
  hardware_type = a.hardware_type;
  protocol_type = a.protocol_type;
  hardware_size = length a.sender_hardware;
  protocol_size = length a.sender_protocol;
  operation = a.operation;
}

-- n bytes from a place on
abbrev pub bytes_at : List ℕ → ℕ → ℕ → List ℕ
bytes_at bytes at n = slice_range bytes at (at + n)

-- The bytes of a packet mean a value: the four addresses follow the first eight bytes.
pub record IsArp (bytes : List ℕ) (a : ArpValue) : Type 0 where
  pub front : BeginsArp bytes (arp_front_of a)
  pub sender_hardware : bytes_at bytes 8 (length a.sender_hardware) ≡ a.sender_hardware
  pub sender_protocol : bytes_at bytes (8 + length a.sender_hardware) (length a.sender_protocol) ≡ a.sender_protocol
  pub target_hardware : bytes_at bytes (8 + length a.sender_hardware + length a.sender_protocol)
      (length a.sender_hardware) ≡ a.target_hardware
  pub target_protocol : bytes_at bytes (8 + 2 * length a.sender_hardware + length a.sender_protocol)
      (length a.sender_protocol) ≡ a.target_protocol

-- the addresses are bytes, and the two of a kind have the same length, which fits in a byte
pub record FitsArp (a : ArpValue) : Type 0 where
  pub front : FitsArpFront (arp_front_of a)
  pub hardware : length a.target_hardware ≡ length a.sender_hardware
  pub protocol : length a.target_protocol ≡ length a.sender_protocol
  pub sender_hardware : IsBytes a.sender_hardware
  pub sender_protocol : IsBytes a.sender_protocol
  pub target_hardware : IsBytes a.target_hardware
  pub target_protocol : IsBytes a.target_protocol

-- the bytes of a value
abbrev pub arp_bytes : ArpValue → List ℕ
arp_bytes a = spelled 8 (arp_front_number (arp_front_of a)) ++ a.sender_hardware ++ a.sender_protocol
    ++ a.target_hardware ++ a.target_protocol

-- ---- reading

-- the front in a list of at least eight bytes
abbrev pub arp_front_in : List ℕ → ArpFront
arp_front_in bytes = record {
  hardware_type = number (slice_range bytes 0 2);
  protocol_type = number (slice_range bytes 2 4);
  hardware_size = slice_index bytes 4;
  protocol_size = slice_index bytes 5;
  operation = number (slice_range bytes 6 8);
}

-- the packet that a list begins with, if this is its front
abbrev pub arp_with : ArpFront → List ℕ → ArpValue
arp_with front bytes = record {
  hardware_type = front.hardware_type;
  protocol_type = front.protocol_type;
  operation = front.operation;
  sender_hardware = bytes_at bytes 8 front.hardware_size;
  sender_protocol = bytes_at bytes (8 + front.hardware_size) front.protocol_size;
  target_hardware = bytes_at bytes (8 + front.hardware_size + front.protocol_size) front.hardware_size;
  target_protocol = bytes_at bytes (8 + 2 * front.hardware_size + front.protocol_size) front.protocol_size;
}

-- the packet in a list that is at least as long as its front says
abbrev pub arp_of : List ℕ → ArpValue
arp_of bytes = arp_with (arp_front_in bytes) bytes
