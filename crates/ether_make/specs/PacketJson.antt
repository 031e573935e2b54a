-- The value of a packet's line of JSON (RFC 8259): an object with the packet's members, a list of its headers, and how
-- the walk through them ends.
use Rattle.std.specs.Prelude.{ℕ, ◌^◌, ◌<◌, List, [], ◌∷◌, length, codes, nat_lt, if◌then◌else◌, Option, IfSome}
use Rattle.std.specs.List.{flat_map}
use Rattle.std.specs.Fmt.{decimal}
use Rattle.std.specs.Str.{is_utf8}
use Rattle.std.specs.Str.Lossy.{replacement_bytes}
use Rattle.json.specs.Json.{Json, null, boolean, number, string, array, object, Items, no_items, item, Members, no_members, member}
use Rattle.ether_base.specs.Bytes.{IsBytes}
use Rattle.ether_pcap.specs.Capture.{PacketValue}
use Rattle.ether_fields.specs.Fields.{section_name}
use Rattle.ether_format.specs.Origins.{OriginValue}
use Rattle.ether_format.specs.declared.end.End.{End}
use Rattle.ether_format.specs.declared.moment.Moment.{Moment}
use Rattle.ether_format.specs.Members.{Value, Nothing, Number, Protocol, Flag, Bytes, Dotted, Word, Text, Time, Within, Member, packet_members}
use Rattle.ether_format.specs.JsonBytes.{exact_members, exact_end_members}
use Rattle.ether_format.specs.Spelling.{colon_text, dotted_text, dated_text, seconds_text, has_date, interval_text}
use Rattle.ether_format.specs.Told.{Told, told_members, end_section, end_members}

-- ---- values (RFC 8259, 3)

-- a byte of a text that is not UTF-8: each above 127 is U+FFFD, the replacement character
abbrev pub replaced : ℕ → List ℕ
replaced b = if nat_lt 127 b then replacement_bytes else b ∷ []

-- a text that may hold any byte, as UTF-8
abbrev pub text_shown : List ℕ → List ℕ
text_shown bytes = if is_utf8 bytes then bytes else flat_map replaced bytes

-- a time is a text, and a number of seconds if the year has more than four digits
abbrev pub moment_json : Moment → Json
moment_json m = if has_date m then string (dated_text m) else number (seconds_text m)

-- a number has its digits, and a string its characters after the escapes are undone (7)
abbrev pub value_json : Value → Json
value_json Nothing = null
value_json (Number n) = number (decimal n)
value_json (Protocol n) = number (decimal n)
value_json (Flag b) = boolean b
value_json (Bytes bytes) = string (colon_text bytes)
value_json (Dotted bytes) = string (dotted_text bytes)
value_json (Word word) = string word
value_json (Text bytes) = string (text_shown bytes)
value_json (Time m) = moment_json m
value_json (Within interval m) = string (interval_text interval m)

-- ---- objects (4)

-- members before others
abbrev pub members_before : List Member → Members → Members
members_before [] rest = rest
members_before (m ∷ ms) rest = member m.name (value_json m.value) (members_before ms rest)

abbrev pub members_json : List Member → Json
members_json ms = object (members_before ms no_members)

-- headers, each with the members that a function says
abbrev pub headers_json : (members : Told → List Member) → List Told → Items
headers_json members [] = no_items
headers_json members (h ∷ hs) = item (members_json (members h)) (headers_json members hs)

-- .. in a packet, whose walk ends with the members `last`
abbrev pub packet_json_of : (members : Told → List Member) → (last : List Member) → (origin : OriginValue)
    → PacketValue → Option Moment → List Told → End → Json
packet_json_of members last origin p moment headers end =
    object
    (members_before (packet_members origin p moment) (member (codes "headers") (array (headers_json members headers))
    (member (section_name (end_section end)) (members_json last) no_members)))

abbrev pub packet_json : (origin : OriginValue) → PacketValue → Option Moment → List Told → End → Json
packet_json origin p moment headers end = packet_json_of told_members (end_members end) origin p moment headers end

-- .. with each byte of the packet
abbrev pub exact_json : (origin : OriginValue) → PacketValue → Option Moment → List Told → End → Json
exact_json origin p moment headers end =
    packet_json_of (exact_members p.packet) (exact_end_members p.packet end) origin p moment headers end

-- ---- packets of programs

-- numbers of 64 bits, and fewer than 2^63 bytes
pub record FitsPacket (origin : OriginValue) (p : PacketValue) : Type 0 where
  pub number_fits : origin.number < 2 ^ 64
  pub seconds : IfSome p.time (λ t. t.seconds < 2 ^ 64)
  pub interface : IfSome p.interface (λ n. n < 2 ^ 64)
  pub original_len : p.original_len < 2 ^ 64
  pub link_type : p.link_type < 2 ^ 64
  pub len : length p.packet < 2 ^ 63
  pub bytes : IsBytes p.packet
