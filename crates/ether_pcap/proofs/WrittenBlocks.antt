-- Blocks that are written are read back.
use Rattle.std.proofs.Common.{◌≡◌, ℕ, ◌+◌, ◌-◌, ◌/◌, ◌%◌, ◌^◌, ◌<◌, ◌≤◌, List, [], ◌∷◌, ◌++◌, length, drop, reverse, refl, sym, ap, subst, ◌∙◌, arith, append_assoc, length-append, rules}
use Rattle.std.specs.Prelude.{slice_range}
use Rattle.std.proofs.lemmas.List.{take_all, drop_at}
use Rattle.ether_base.specs.Bytes.{spelled}
use Rattle.ether_base.proofs.SubLists.{part-append, part_all}
use Rattle.ether_pcap.specs.Numbers.{Order, BigEndian, LittleEndian, number_in, field}
use Rattle.ether_pcap.specs.Block.{IsTotalLen, BeginsBlock}
use Rattle.ether_pcap.specs.Section.{section_type, HasSectionType, HasOrder, IsSection}
use Rattle.ether_pcap.specs.Options.{HasOptions, padded}
use Rattle.ether_pcap.specs.Bodies.{InterfaceValue, IsInterface, EnhancedPacketValue, IsEnhancedPacket}
use Rattle.ether_pcap.specs.Writing.{bytes_of}
use Rattle.ether_pcap.specs.Editing.{block_bytes}
use Rattle.ether_pcap.specs.WritingBlocks.{section_body, interface_head, interface_body, interface_block_len, InterfaceIsRead, nanosecond_bytes, packet_head, packet_padding, packet_body, packet_block_len, PacketIsRead}
use Rattle.ether_pcap.proofs.Numbers.{length-bytes_of, number-bytes_of}
use Rattle.ether_pcap.proofs.CaptureLocality.{block_local}
use Rattle.ether_pcap.proofs.EditUnits.{length-zeros, part_past, block_begins}

-- ---- blocks

-- a length that has more than four bytes is written modulo 2^32
low_bytes : (n : ℕ) → spelled 4 (n % 4294967296) ≡ spelled 4 n
unfolding spelled
low_bytes n = search rules

pub written_modulo : (order : Order) (n : ℕ) → bytes_of order 4 (n % 4294967296) ≡ bytes_of order 4 n
written_modulo BigEndian n = low_bytes n
written_modulo LittleEndian n = ap (λ (l : List ℕ). reverse l) (low_bytes n)

-- type, total length, body, total length
block_read : (order : Order) (n : ℕ) (body rest : List ℕ) → n < 4294967296 → IsTotalLen (12 + length body)
    → BeginsBlock order (block_bytes order (bytes_of order 4 n) body ++ rest) (record { block_type = n; body = body })
block_read order n body rest lt sound =
    let t = bytes_of order 4 n in
    let typed = λ (k : ℕ). BeginsBlock order (block_bytes order t body) (record { block_type = k; body = body }) in
    let begins = block_begins order t body (length-bytes_of order 4 n) sound in
    block_local order (block_bytes order t body) rest (record { block_type = n; body = body })
    (subst typed (number-bytes_of order 4 n lt) begins)

framed_read : (order : Order) (n len : ℕ) (body rest : List ℕ) → n < 4294967296 → len ≡ 12 + length body
    → IsTotalLen len
    → BeginsBlock order (bytes_of order 4 n ++ bytes_of order 4 len ++ body ++ bytes_of order 4 len ++ rest)
    (record { block_type = n; body = body })
framed_read order n len body rest lt long sound = search (rules, block_read)

-- ---- section headers

pub section_joined : (order : Order)
    → bytes_of order 4 section_type ++ bytes_of order 4 28 ++ bytes_of order 4 0x1A2B3C4D
    ++ (bytes_of order 2 1 ++ bytes_of order 2 0) ++ bytes_of order 4 0xFFFFFFFF ++ bytes_of order 4 0xFFFFFFFF
    ++ bytes_of order 4 28
    ≡ block_bytes order (bytes_of order 4 section_type) (section_body order)
unfolding spelled
section_joined BigEndian = refl
section_joined LittleEndian = refl

section_fields : (order : Order) (rest : List ℕ)
    → HasSectionType (block_bytes order (bytes_of order 4 section_type) (section_body order) ++ rest)
    × HasOrder (block_bytes order (bytes_of order 4 section_type) (section_body order) ++ rest) order
    × (field order (block_bytes order (bytes_of order 4 section_type) (section_body order) ++ rest) 12 14 ≡ 1)
    × (field order (block_bytes order (bytes_of order 4 section_type) (section_body order) ++ rest) 14 16 ≡ 0)
    × (length (section_body order) ≡ 16)
unfolding spelled
section_fields BigEndian rest = (refl, refl, refl, refl, refl)
section_fields LittleEndian rest = (refl, refl, refl, refl, refl)

pub section_read : (order : Order) (rest : List ℕ)
    → IsSection (block_bytes order (bytes_of order 4 section_type) (section_body order) ++ rest) order
    (record { block_type = section_type; body = section_body order })
section_read order rest =
    let f = section_fields order rest in
    search (rules, block_read)

-- ---- interface descriptions

pub length-interface_head : (order : Order) (i : InterfaceValue) → length (interface_head order i) ≡ 8
unfolding spelled
length-interface_head BigEndian i = refl
length-interface_head LittleEndian i = refl

interface_places : (order : Order) (i : InterfaceValue)
    → (slice_range (interface_body order i) 0 2 ≡ bytes_of order 2 i.link_type)
    × (slice_range (interface_body order i) 4 8 ≡ bytes_of order 4 i.snap_len)
    × (drop 8 (interface_body order i) ≡ i.options)
unfolding spelled
interface_places BigEndian i = (refl, refl, refl)
interface_places LittleEndian i = (refl, refl, refl)

interface_value : (order : Order) (i : InterfaceValue) → number_in order (bytes_of order 2 i.link_type) ≡ i.link_type
    → number_in order (bytes_of order 4 i.snap_len) ≡ i.snap_len → IsInterface order (interface_body order i) i
interface_value order i link snap =
    let f = interface_places order i in
    let body = interface_body order i in
    let long : length body ≡ 8 + length i.options =
    omega (arith, length-append (interface_head order i) i.options, length-interface_head order i) in
    search (rules, take_all)

pub interface_read : (order : Order) (header : List ℕ) (i : InterfaceValue)
    → header ≡ bytes_of order 4 1 ++ bytes_of order 4 (interface_block_len i) ++ interface_head order i
    → number_in order (bytes_of order 2 i.link_type) ≡ i.link_type
    → number_in order (bytes_of order 4 i.snap_len) ≡ i.snap_len → InterfaceIsRead order header i
interface_read order header i is link snap sound rest =
    let len = interface_block_len i in
    let n = bytes_of order 4 len in
    let front = bytes_of order 4 1 ++ n in
    let h = interface_head order i in
    let body = interface_body order i in
    let long : len ≡ 12 + length body = omega (arith, length-append h i.options, length-interface_head order i) in
    let joined : front ++ body ++ n ++ rest ≡ header ++ i.options ++ n ++ rest =
    ap (λ (l : List ℕ). l ++ n ++ rest)
    (sym (append_assoc front h i.options) ∙ ap (λ (l : List ℕ). l ++ i.options) (sym is)) in (
      subst (λ (l : List ℕ). BeginsBlock order l (record { block_type = 1; body = body })) joined
          (framed_read order 1 len body rest (omega arith) long sound),
      interface_value order i link snap,
    )

pub nanoseconds_read : (order : Order)
    → HasOptions order (nanosecond_bytes order) (record { code = 9; value = 9 ∷ [] } ∷ [])
unfolding spelled
nanoseconds_read BigEndian = search rules
nanoseconds_read LittleEndian = search rules

-- ---- enhanced packets

pub length-packet_head : (order : Order) (p : EnhancedPacketValue) → length (packet_head order p) ≡ 20
unfolding spelled
length-packet_head BigEndian p = refl
length-packet_head LittleEndian p = refl

-- the numbers before the packet, by their places
packet_fields : (order : Order) (p : EnhancedPacketValue)
    → (slice_range (packet_head order p) 0 4 ≡ bytes_of order 4 p.interface)
    × (slice_range (packet_head order p) 4 8 ≡ bytes_of order 4 (p.time / 2 ^ 32))
    × (slice_range (packet_head order p) 8 12 ≡ bytes_of order 4 (p.time % 2 ^ 32))
    × (slice_range (packet_head order p) 12 16 ≡ bytes_of order 4 (length p.packet))
    × (slice_range (packet_head order p) 16 20 ≡ bytes_of order 4 p.original_len)
unfolding spelled
packet_fields BigEndian p = (refl, refl, refl, refl, refl)
packet_fields LittleEndian p = (refl, refl, refl, refl, refl)

pub packet_joined : (order : Order) (p : EnhancedPacketValue) (len : ℕ)
    → bytes_of order 4 6 ++ bytes_of order 4 len ++ bytes_of order 4 p.interface ++ bytes_of order 4 (p.time / 2 ^ 32)
    ++ bytes_of order 4 (p.time % 2 ^ 32) ++ bytes_of order 4 (length p.packet) ++ bytes_of order 4 p.original_len
    ≡ bytes_of order 4 6 ++ bytes_of order 4 len ++ packet_head order p
unfolding spelled
packet_joined BigEndian p len = refl
packet_joined LittleEndian p len = refl

-- the numbers of a packet have room in their bytes
pub record PacketFits (order : Order) (p : EnhancedPacketValue) : Type 0 where
  pub interface : number_in order (bytes_of order 4 p.interface) ≡ p.interface
  pub upper : number_in order (bytes_of order 4 (p.time / 2 ^ 32)) ≡ p.time / 2 ^ 32
  pub lower : number_in order (bytes_of order 4 (p.time % 2 ^ 32)) ≡ p.time % 2 ^ 32
  pub original_len : number_in order (bytes_of order 4 p.original_len) ≡ p.original_len

module _ (order : Order) (p : EnhancedPacketValue) where
  pub length-padding : length (packet_padding p) ≡ padded (length p.packet) - length p.packet
  length-padding = length-zeros (padded (length p.packet) - length p.packet)

  pub length-to_options : length (packet_head order p ++ p.packet ++ packet_padding p) ≡ 20 + padded (length p.packet)
  length-to_options = search (rules, length-append, length-packet_head, length-padding)

  packet_value : PacketFits order p → length p.packet ≤ 262144 → IsEnhancedPacket 4 order (packet_body order p) p
  packet_value fits room =
      let h = packet_head order p in
      let n = length p.packet in
      let z = packet_padding p in
      let body = packet_body order p in
      let hlen : length h ≡ 20 = length-packet_head order p in
      let hp : length (h ++ p.packet) ≡ 20 + n = omega (arith, length-append h p.packet, hlen) in
      let to : length (h ++ p.packet ++ z) ≡ 20 + padded n = length-to_options in
      let all = length-append (h ++ p.packet ++ z) p.options in
      let inside : (i j : ℕ) → i ≤ j → j ≤ 20 + n → slice_range body i j ≡ slice_range (h ++ p.packet) i j =
      λ i j ij high.
      part-append (h ++ p.packet ++ z) p.options i j ij (omega (arith, to, high))
      ∙ part-append (h ++ p.packet) z i j ij (omega (arith, hp, high)) in
      let at : (i j : ℕ) → i ≤ j → j ≤ 20 → slice_range body i j ≡ slice_range h i j =
      λ i j ij high. inside i j ij (omega (arith, high)) ∙ part-append h p.packet i j ij (omega (arith, hlen, high)) in
      let fields = packet_fields order p in
      let upper = ap (number_in order) (at 4 8 (omega arith) (omega arith) ∙ fields.1) ∙ fits.upper in
      let lower = ap (number_in order) (at 8 12 (omega arith) (omega arith) ∙ fields.2) ∙ fits.lower in
      record {
        interface = ap (number_in order) (at 0 4 (omega arith) (omega arith) ∙ fields.0) ∙ fits.interface;
        time = omega (arith, upper, lower);
        captured_len =
            ap (number_in order) (at 12 16 (omega arith) (omega arith) ∙ fields.3)
            ∙ number-bytes_of order 4 n (omega (arith, room));
        original_len = ap (number_in order) (at 16 20 (omega arith) (omega arith) ∙ fields.4) ∙ fits.original_len;
        packet =
            inside 20 (20 + n) (omega arith) (omega arith)
            ∙ part_past h p.packet 20 20 (20 + n) 0 n hlen (omega arith) (omega arith)
            ∙ part_all p.packet n (omega arith);
        options = drop_at (h ++ p.packet ++ z) p.options (20 + padded n) to;
        whole = omega (arith, all, to);
        room = room;
      }

  pub packet_read : (header : List ℕ)
      → header ≡ bytes_of order 4 6 ++ bytes_of order 4 (packet_block_len p) ++ packet_head order p
      → PacketFits order p → PacketIsRead order header p
  packet_read header is fits room sound rest =
      let len = packet_block_len p in
      let w = bytes_of order 4 len in
      let front = bytes_of order 4 6 ++ w in
      let h = packet_head order p in
      let z = packet_padding p in
      let body = packet_body order p in
      let long : len ≡ 12 + length body =
      omega (arith, length-append (h ++ p.packet ++ z) p.options, length-to_options) in
      let inner : front ++ body ≡ front ++ h ++ p.packet ++ z ++ p.options =
      sym (append_assoc front (h ++ p.packet ++ z) p.options)
      ∙ ap (λ (l : List ℕ). l ++ p.options) (sym (append_assoc front (h ++ p.packet) z))
      ∙ ap (λ (l : List ℕ). l ++ z ++ p.options) (sym (append_assoc front h p.packet)) in
      let joined : front ++ body ++ w ++ rest ≡ header ++ p.packet ++ z ++ p.options ++ w ++ rest =
      ap (λ (l : List ℕ). l ++ w ++ rest)
      (inner ∙ ap (λ (l : List ℕ). l ++ p.packet ++ z ++ p.options) (sym is)) in (
        subst (λ (l : List ℕ). BeginsBlock order l (record { block_type = 6; body = body })) joined
            (framed_read order 6 len body rest (omega arith) long sound),
        packet_value fits room,
      )
