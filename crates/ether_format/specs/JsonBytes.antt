-- A packet as a line of JSON that says each of its bytes once: its headers, their reserved bits, and the bytes after
-- them.
use Rattle.std.specs.Prelude.{ℕ, ◌+◌, ◌*◌, ◌/◌, ◌^◌, nat_eq, if◌then◌else◌, List, [], ◌∷◌, ◌++◌, drop, codes, Option, None, slice_index_or}
use Rattle.ether_pcap.specs.Capture.{PacketValue}
use Rattle.ether_output.specs.HexText.{hex_text}
use Rattle.ether_fields.specs.declared.section.Section.{Section}
use Rattle.ether_fields.specs.declared.section.Section.TheVariants as sections
use Rattle.ether_format.specs.declared.moment.Moment.{Moment}
use Rattle.ether_format.specs.declared.end.End.{End}
use Rattle.ether_format.specs.declared.end.End.TheVariants.{Rest, Skipped, Fault}
use Rattle.ether_format.specs.Json.{json_end_of, json_front, objects_of}
use Rattle.ether_format.specs.Members.{Member, Number, Word, member}
use Rattle.ether_format.specs.Origins.{OriginValue}
use Rattle.ether_format.specs.Told.{Told, Walked, CookedV2, told_members, told_place, told_section, end_members}

-- ---- headers

-- The reserved bits of a header, from its bytes on: two bits of a SecTag, before its short length (IEEE 802.1AE, 9.7);
-- two bytes of cooked capture v2 (LINKTYPE_LINUX_SLL2). Others have none.
abbrev pub reserved_bits : Section → List ℕ → ℕ
reserved_bits sections.Macsec bytes = slice_index_or bytes 1 0 / 2 ^ 6
reserved_bits sections.Sll2 bytes = slice_index_or bytes 2 0 * 2 ^ 8 + slice_index_or bytes 3 0
reserved_bits section bytes = 0

-- .. of a header of a packet
abbrev pub told_reserved : (packet : List ℕ) → Told → ℕ
told_reserved packet h = reserved_bits (told_section h) (drop (told_place h).start packet)

-- they are a member if they are not 0
abbrev pub reserved_members : (bits : ℕ) → List Member
reserved_members bits = if nat_eq bits 0 then [] else member (codes "reserved") (Number bits) ∷ []

-- a frame check sequence is no member: it is among the bytes after the headers
abbrev pub without_check : Told → Told
without_check (Walked place h fcs) = Walked place h None
without_check (CookedV2 place s) = CookedV2 place s

abbrev pub exact_members : (packet : List ℕ) → Told → List Member
exact_members packet h = told_members (without_check h) ++ reserved_members (told_reserved packet h)

-- ---- the bytes after them

-- the offset of the first byte after the last header that is found
abbrev pub headers_end : End → ℕ
headers_end (Rest start finish kind) = start
headers_end (Skipped len) = 0
headers_end (Fault start closed cause) = start

-- they are the last member, in two hexadecimal digits each
abbrev pub bytes_member : (packet : List ℕ) → End → Member
bytes_member packet end = member (codes "bytes") (Word (hex_text (drop (headers_end end) packet)))

abbrev pub exact_end_members : (packet : List ℕ) → End → List Member
exact_end_members packet end = end_members end ++ (bytes_member packet end ∷ [])

-- ---- the line

abbrev pub json_bytes_line : OriginValue → PacketValue → Option Moment → List Told → End → List ℕ
json_bytes_line origin p moment headers end =
    json_front origin p moment
    ++ (objects_of (exact_members p.packet) headers ++ json_end_of end (exact_end_members p.packet end))
