-- What is written for the blocks of a pcapng file: all that is read of them, and 0 for reserved fields
-- (draft-ietf-opsawg-pcapng, sections 3.1, 3.5 and 4.1 to 4.3).
use Rattle.std.specs.Prelude.{ℕ, ◌+◌, ◌-◌, ◌/◌, ◌%◌, ◌^◌, ◌<◌, ◌≤◌, List, [], ◌∷◌, ◌++◌, length, None}
use Rattle.ether_pcap.specs.Numbers.{Order}
use Rattle.ether_pcap.specs.Block.{IsTotalLen, BeginsBlock}
use Rattle.ether_pcap.specs.Record.{max_captured_len}
use Rattle.ether_pcap.specs.Section.{section_type}
use Rattle.ether_pcap.specs.Options.{padded, OptionValue, HasOptions}
use Rattle.ether_pcap.specs.Bodies.{InterfaceValue, IsInterface, EnhancedPacketValue, IsEnhancedPacket}
use Rattle.ether_pcap.specs.Writing.{bytes_of, zeros}
use Rattle.ether_pcap.specs.Editing.{block_bytes}
use Rattle.ether_pcap.specs.Capture.{CaptureInterfaceValue, PacketValue, described_by, packet_on, IsAt, Beginning, HasPackets}

-- byte-order magic, version 1.0, and the section length -1, which means that none is given (4.1)
abbrev pub section_body : Order → List ℕ
section_body order =
    bytes_of order 4 0x1A2B3C4D ++ (bytes_of order 2 1 ++ bytes_of order 2 0) ++ bytes_of order 4 0xFFFFFFFF
    ++ bytes_of order 4 0xFFFFFFFF

-- link type, 0, snap length; options (4.2)
abbrev pub interface_head : Order → InterfaceValue → List ℕ
interface_head order i = (bytes_of order 2 i.link_type ++ bytes_of order 2 0) ++ bytes_of order 4 i.snap_len

abbrev pub interface_body : Order → InterfaceValue → List ℕ
interface_body order i = interface_head order i ++ i.options

-- the option if_tsresol (9) with the value for nanoseconds, one byte, padded; the end of options (3.5)
abbrev pub nanosecond_bytes : Order → List ℕ
nanosecond_bytes order =
    (bytes_of order 2 9 ++ bytes_of order 2 1) ++ (9 ∷ 0 ∷ 0 ∷ 0 ∷ []) ++ (bytes_of order 2 0 ++ bytes_of order 2 0)

-- interface, time with its upper half first, captured length, original length; packet, padding, options (4.3)
abbrev pub packet_head : Order → EnhancedPacketValue → List ℕ
packet_head order p =
    bytes_of order 4 p.interface ++ bytes_of order 4 (p.time / 2 ^ 32) ++ bytes_of order 4 (p.time % 2 ^ 32)
    ++ bytes_of order 4 (length p.packet) ++ bytes_of order 4 p.original_len

abbrev pub packet_padding : EnhancedPacketValue → List ℕ
packet_padding p = zeros (padded (length p.packet) - length p.packet)

abbrev pub packet_body : Order → EnhancedPacketValue → List ℕ
packet_body order p = packet_head order p ++ p.packet ++ packet_padding p ++ p.options

-- the lengths of the whole blocks
abbrev pub interface_block_len : InterfaceValue → ℕ
interface_block_len i = 20 + length i.options

abbrev pub packet_block_len : EnhancedPacketValue → ℕ
packet_block_len p = 32 + padded (length p.packet) + length p.options

-- A header that is written for an interface description or an enhanced packet is read back as it, if its options or
-- its packet follow, and then the block's length.
abbrev pub InterfaceIsRead : Order → (header : List ℕ) → InterfaceValue → Type 0
InterfaceIsRead order header i =
    IsTotalLen (interface_block_len i) → (rest : List ℕ)
    → BeginsBlock order (header ++ i.options ++ bytes_of order 4 (interface_block_len i) ++ rest)
    (record { block_type = 1; body = interface_body order i })
    × IsInterface order (interface_body order i) i

abbrev pub PacketIsRead : Order → (header : List ℕ) → EnhancedPacketValue → Type 0
PacketIsRead order header p =
    length p.packet ≤ max_captured_len → IsTotalLen (packet_block_len p) → (rest : List ℕ)
    → BeginsBlock order (header ++ p.packet ++ packet_padding p ++ p.options ++ bytes_of order 4 (packet_block_len p)
    ++ rest)
    (record { block_type = 6; body = packet_body order p })
    × IsEnhancedPacket 4 order (packet_body order p) p

-- ---- a whole file

abbrev pub section_bytes : Order → List ℕ
section_bytes order = block_bytes order (bytes_of order 4 section_type) (section_body order)

abbrev pub interface_bytes : Order → InterfaceValue → List ℕ
interface_bytes order i =
    let len = bytes_of order 4 (interface_block_len i) in bytes_of order 4 1 ++ len ++ interface_head order i
    ++ i.options ++ len

abbrev pub packet_bytes : Order → EnhancedPacketValue → List ℕ
packet_bytes order p =
    let len = bytes_of order 4 (packet_block_len p) in
    bytes_of order 4 6 ++ len ++ packet_head order p ++ p.packet ++ packet_padding p ++ p.options ++ len

-- the numbers of an interface or a packet fit in their bytes, and a reader accepts the length of the block
pub record FitsInterface (i : InterfaceValue) : Type 0 where
  pub link_type : i.link_type < 2 ^ 16
  pub snap_len : i.snap_len < 2 ^ 32
  pub total_len : IsTotalLen (interface_block_len i)

pub record FitsPacket (p : EnhancedPacketValue) : Type 0 where
  pub interface : p.interface < 2 ^ 32
  pub time : p.time < 2 ^ 64
  pub original_len : p.original_len < 2 ^ 32
  pub captured_len : length p.packet ≤ max_captured_len
  pub total_len : IsTotalLen (packet_block_len p)

-- What follows a section header in a section that has described the interfaces `before`: further interfaces, up to
-- `most` in all; packets of interfaces that are described before them; and further sections. The packets are those of
-- the blocks.
pub data WritesBlocks (most : ℕ) : Order → (before : List CaptureInterfaceValue) → (bytes : List ℕ) → List PacketValue
    → Type 0 where
  end : (order : Order) (before : List CaptureInterfaceValue) → WritesBlocks most order before [] []
  section : (order next : Order) (before : List CaptureInterfaceValue) (bytes : List ℕ) (packets : List PacketValue)
      → WritesBlocks most next [] bytes packets → WritesBlocks most order before (section_bytes next ++ bytes) packets
  interface : (order : Order) (before : List CaptureInterfaceValue) (bytes : List ℕ) (packets : List PacketValue)
      (i : InterfaceValue) (options : List OptionValue)
      → FitsInterface i → HasOptions order i.options options → length before < most
      → WritesBlocks most order (before ++ described_by order i options ∷ []) bytes packets
      → WritesBlocks most order before (interface_bytes order i ++ bytes) packets
  packet : (order : Order) (before : List CaptureInterfaceValue) (bytes : List ℕ) (packets : List PacketValue)
      (p : EnhancedPacketValue) (options : List OptionValue)
      (i : CaptureInterfaceValue) → FitsPacket p → HasOptions order p.options options → IsAt before p.interface i
      → WritesBlocks most order before bytes packets → WritesBlocks most order before (packet_bytes order p ++ bytes)
      (packet_on order i p options ∷ packets)

-- A file that is written as a section header and blocks has exactly their packets, and nothing is left over.
abbrev pub WrittenSectionsAreRead : Type 0
WrittenSectionsAreRead =
    (most : ℕ) (order : Order) (bytes : List ℕ) (packets : List PacketValue) → WritesBlocks most order [] bytes packets
    → HasPackets (Beginning most) (section_bytes order ++ bytes) packets [] None
