-- A packet as a line of JSON (RFC 8259).
use Rattle.std.specs.Prelude.{ℕ, List, [], ◌∷◌, ◌++◌, codes, Option}
use Rattle.std.specs.List.{flat_map}
use Rattle.ether_pcap.specs.Capture.{PacketValue}
use Rattle.ether_format.specs.declared.moment.Moment.{Moment}
use Rattle.ether_format.specs.Members.{Member, packet_members}
use Rattle.ether_fields.specs.Fields.{section_name}
use Rattle.ether_format.specs.declared.end.End.{End}
use Rattle.ether_format.specs.Told.{Told, told_members, end_section, end_members}
use Rattle.ether_format.specs.Spelling.{json_value, quoted}
use Rattle.ether_format.specs.Origins.{OriginValue}

-- a name and a value
abbrev pub json_member : Member → List ℕ
json_member m = quoted m.name ++ (codes ":" ++ json_value m.value)

-- members with a comma between two
abbrev pub json_members : List Member → List ℕ
json_members [] = []
json_members (m ∷ ms) = json_member m ++ flat_map (λ n. codes "," ++ json_member n) ms

unfoldable pub json_object : List Member → List ℕ
json_object members = codes "{" ++ (json_members members ++ codes "}")

-- objects with a comma between two, each with the members that a header has
abbrev pub objects_of : (members : Told → List Member) → List Told → List ℕ
objects_of members [] = []
objects_of members (h ∷ hs) = json_object (members h) ++ flat_map (λ k. codes "," ++ json_object (members k)) hs

abbrev pub json_objects : List Told → List ℕ
json_objects headers = objects_of told_members headers

-- the members of the packet, and the name of its list of headers
abbrev pub json_front : OriginValue → PacketValue → Option Moment → List ℕ
json_front origin p moment = codes "{" ++ (json_members (packet_members origin p moment) ++ codes ",\"headers\":[")

-- the end of that list, and an object with these members under the name of how the walk ends
abbrev pub json_end_of : End → List Member → List ℕ
json_end_of end members =
    codes "]," ++ (quoted (section_name (end_section end)) ++ (codes ":" ++ (json_object members ++ codes "}\n")))

abbrev pub json_end : End → List ℕ
json_end end = json_end_of end (end_members end)

abbrev pub json_line : OriginValue → PacketValue → Option Moment → List Told → End → List ℕ
json_line origin p moment headers end = json_front origin p moment ++ (json_objects headers ++ json_end end)
