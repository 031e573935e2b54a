-- A pcapng file that is written has the packets of its blocks.
use Rattle.std.proofs.Common.{◌≡◌, ℕ, ◌+◌, List, [], ◌∷◌, ◌++◌, length, drop, refl, sym, subst, arith, rules}
use Rattle.std.specs.Prelude.{None, Some}
use Rattle.std.proofs.lemmas.List.{drop_at, length-append}
use Rattle.ether_base.specs.Bytes.{spelled}
use Rattle.ether_pcap.specs.Numbers.{Order, BigEndian, LittleEndian}
use Rattle.ether_pcap.specs.Block.{BlockValue}
use Rattle.ether_pcap.specs.Section.{section_type, HasSectionType}
use Rattle.ether_pcap.specs.Bodies.{InterfaceValue, EnhancedPacketValue}
use Rattle.ether_pcap.specs.Writing.{bytes_of}
use Rattle.ether_pcap.specs.WritingBlocks.{section_body, section_bytes, interface_head, interface_body, interface_block_len, interface_bytes, packet_head, packet_body, packet_block_len, packet_bytes, FitsPacket, WritesBlocks, end, section, interface, packet, WrittenSectionsAreRead}
use Rattle.ether_pcap.specs.Capture.{CaptureExpectation, Beginning, Blocks, CaptureInterfaceValue, PacketValue, Describes, described_by, packet_on, HasPackets}
use Rattle.ether_pcap.specs.Capture as capture
use Rattle.ether_pcap.proofs.Numbers.{length-bytes_of, number-bytes_of}
use Rattle.ether_pcap.proofs.WrittenBlocks.{section_read, interface_read, PacketFits, packet_read}

-- ---- no section header

interface_other : (order : Order) (i : InterfaceValue) (bytes : List ℕ)
    → HasSectionType (interface_bytes order i ++ bytes) → ⊥
unfolding spelled
interface_other BigEndian i bytes has = let e : 1 ≡ 168627466 = has in omega (arith, e)
interface_other LittleEndian i bytes has = let e : 16777216 ≡ 168627466 = has in omega (arith, e)

packet_other : (order : Order) (p : EnhancedPacketValue) (bytes : List ℕ)
    → HasSectionType (packet_bytes order p ++ bytes) → ⊥
unfolding spelled
packet_other BigEndian p bytes has = let e : 6 ≡ 168627466 = has in omega (arith, e)
packet_other LittleEndian p bytes has = let e : 100663296 ≡ 168627466 = has in omega (arith, e)

-- ---- lengths

length-section_bytes : (order : Order) → length (section_bytes order) ≡ 12 + length (section_body order)
unfolding spelled
length-section_bytes BigEndian = refl
length-section_bytes LittleEndian = refl

length-interface_bytes : (order : Order) (i : InterfaceValue)
    → length (interface_bytes order i) ≡ 12 + length (interface_body order i)
length-interface_bytes order i = search (rules, length-append, length-bytes_of)

length-packet_bytes : (order : Order) (p : EnhancedPacketValue)
    → length (packet_bytes order p) ≡ 12 + length (packet_body order p)
length-packet_bytes order p = search (rules, length-append, length-bytes_of)

-- ---- the blocks

packet_fits : (order : Order) (p : EnhancedPacketValue) → FitsPacket p → PacketFits order p
packet_fits order p fits = search (rules, number-bytes_of)

has_rest : (x : CaptureExpectation) (front bytes : List ℕ) (n : ℕ) (packets : List PacketValue) → length front ≡ n
    → HasPackets x bytes packets [] None → HasPackets x (drop n (front ++ bytes)) packets [] None
has_rest x front bytes n packets len has =
    subst (λ (l : List ℕ). HasPackets x l packets [] None) (sym (drop_at front bytes n len)) has

written_blocks : (most : ℕ) (order : Order) (before : List CaptureInterfaceValue) (bytes : List ℕ)
    (packets : List PacketValue) → WritesBlocks most order before bytes packets
    → HasPackets (Blocks most order before) bytes packets [] None
written_blocks most _ _ _ _ (end order before) = capture.ended (Blocks most order before) [] (tt, refl)
written_blocks most _ _ _ _ (section order next before bytes packets rest) =
    let b : BlockValue = record { block_type = section_type; body = section_body next } in
    let n = 12 + length (section_body next) in
    capture.unit (Blocks most order before) (Blocks most next []) (section_bytes next ++ bytes) n packets [] None
    (capture.section most order next before b (section_read next bytes))
    (has_rest (Blocks most next []) (section_bytes next) bytes n packets (length-section_bytes next)
    (written_blocks most next [] bytes packets rest))
written_blocks most _ _ _ _ (interface order before bytes packets i options fits has room rest) =
    let v = described_by order i options in
    let after = before ++ v ∷ [] in
    let b : BlockValue = record { block_type = 1; body = interface_body order i } in
    let n = 12 + length (interface_body order i) in
    let header = bytes_of order 4 1 ++ bytes_of order 4 (interface_block_len i) ++ interface_head order i in
    let read =
    interface_read order header i refl (number-bytes_of order 2 i.link_type fits.link_type)
    (number-bytes_of order 4 i.snap_len fits.snap_len)
    fits.total_len bytes in
    let describes : Describes order b.body v =
    record { interface = i; options = options; is_interface = read.1; has_options = has; value = refl } in
    capture.unit (Blocks most order before) (Blocks most order after) (interface_bytes order i ++ bytes) n packets []
    None
    (capture.block most order before after None b (interface_other order i bytes) read.0
    (v, describes, room, refl, refl))
    (has_rest (Blocks most order after) (interface_bytes order i) bytes n packets (length-interface_bytes order i)
    (written_blocks most order after bytes packets rest))
written_blocks most _ _ _ _ (packet order before bytes packets p options i fits has at rest) =
    let b : BlockValue = record { block_type = 6; body = packet_body order p } in
    let n = 12 + length (packet_body order p) in
    let value = packet_on order i p options in
    let header = bytes_of order 4 6 ++ bytes_of order 4 (packet_block_len p) ++ packet_head order p in
    let read = packet_read order p header refl (packet_fits order p fits) fits.captured_len fits.total_len bytes in
    capture.packet (Blocks most order before) (Blocks most order before) (packet_bytes order p ++ bytes) n value packets
    [] None
    (capture.block most order before before (Some value) b (packet_other order p bytes) read.0
    (i, p, options, read.1, at, has, refl, refl))
    (has_rest (Blocks most order before) (packet_bytes order p) bytes n packets (length-packet_bytes order p)
    (written_blocks most order before bytes packets rest))

pub written_sections_are_read : WrittenSectionsAreRead
written_sections_are_read most order bytes packets rest =
    let b : BlockValue = record { block_type = section_type; body = section_body order } in
    let n = 12 + length (section_body order) in
    capture.unit (Beginning most) (Blocks most order []) (section_bytes order ++ bytes) n packets [] None
    (capture.first_section most order b (section_read order bytes))
    (has_rest (Blocks most order []) (section_bytes order) bytes n packets (length-section_bytes order)
    (written_blocks most order [] bytes packets rest))
