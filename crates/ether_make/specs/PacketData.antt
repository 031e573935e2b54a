-- The value of a packet's line as the kit's reader has it: numbers have values, and an object has each name once.
use Rattle.std.specs.Prelude.{List, [], ◌∷◌, length, codes, true, false, if◌then◌else◌, Option}
use Rattle.std.specs.Fmt.{decimal}
use Rattle.std.specs.Float.{binary64}
use Rattle.std.specs.Float.Numeral.{Parts, nearest_float}
use Rattle.serde_json.specs.Data.{Data, null, boolean, number, unsigned, float, string, array, object, Items, no_items, item, Members, no_members, put}
use Rattle.ether_pcap.specs.Capture.{PacketValue}
use Rattle.ether_fields.specs.Fields.{section_name}
use Rattle.ether_format.specs.Origins.{OriginValue}
use Rattle.ether_format.specs.declared.end.End.{End}
use Rattle.ether_format.specs.declared.moment.Moment.{Moment}
use Rattle.ether_format.specs.Members.{Value, Nothing, Number, Protocol, Flag, Bytes, Dotted, Word, Text, Time, Within, Member, packet_members}
use Rattle.ether_format.specs.JsonBytes.{exact_members, exact_end_members}
use Rattle.ether_format.specs.Spelling.{colon_text, dotted_text, nine_digits, dated_text, seconds_text, has_date, interval_text}
use Rattle.ether_format.specs.Told.{Told, told_members, end_section, end_members}
use Rattle.ether_make.specs.PacketJson.{text_shown}

-- the digits of seconds with nine decimals
abbrev pub seconds_parts : Moment → Parts
seconds_parts m = record {
  whole = decimal m.seconds;
  point = true;
  fraction = nine_digits m.nanoseconds;
  exponent_negative = false;
  exponent = [];
  len = length (seconds_text m);
}

-- a time is a text, or the float nearest to its seconds if the year has more than four digits
abbrev pub moment_data : Moment → Data
moment_data m =
    if has_date m then string (dated_text m) else number (float (nearest_float binary64 false (seconds_parts m)))

abbrev pub value_data : Value → Data
value_data Nothing = null
value_data (Number n) = number (unsigned n)
value_data (Protocol n) = number (unsigned n)
value_data (Flag b) = boolean b
value_data (Bytes bytes) = string (colon_text bytes)
value_data (Dotted bytes) = string (dotted_text bytes)
value_data (Word word) = string word
value_data (Text bytes) = string (text_shown bytes)
value_data (Time m) = moment_data m
value_data (Within interval m) = string (interval_text interval m)

-- members, each with its value at its name, after others
abbrev pub members_into : List Member → Members → Members
members_into [] found = found
members_into (m ∷ ms) found = members_into ms (put m.name (value_data m.value) found)

abbrev pub members_data : List Member → Data
members_data ms = object (members_into ms no_members)

-- headers, each with the members that a function says
abbrev pub headers_data : (members : Told → List Member) → List Told → Items
headers_data members [] = no_items
headers_data members (h ∷ hs) = item (members_data (members h)) (headers_data members hs)

-- .. in a packet, whose walk ends with the members `last`
abbrev pub packet_data_of : (members : Told → List Member) → (last : List Member) → (origin : OriginValue)
    → PacketValue → Option Moment → List Told → End → Data
packet_data_of members last origin p moment headers end =
    object
    (put (section_name (end_section end)) (members_data last) (put (codes "headers")
    (array (headers_data members headers))
    (members_into (packet_members origin p moment) no_members)))

abbrev pub packet_data : (origin : OriginValue) → PacketValue → Option Moment → List Told → End → Data
packet_data origin p moment headers end = packet_data_of told_members (end_members end) origin p moment headers end

-- .. with each byte of the packet
abbrev pub exact_data : (origin : OriginValue) → PacketValue → Option Moment → List Told → End → Data
exact_data origin p moment headers end =
    packet_data_of (exact_members p.packet) (exact_end_members p.packet end) origin p moment headers end
