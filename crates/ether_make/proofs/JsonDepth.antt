-- A packet's value nests three deep.
use Rattle.std.proofs.Common.{◌≡◌, ℕ, ◌≤◌, Bool, true, false, cond, List, [], ◌∷◌, codes, Option, refl, arith}
use Rattle.json.specs.Json.{string, number, array, Members, no_members, member}
use Rattle.json.specs.Tree.{depth, items_depth, members_depth}
use Rattle.ether_format.specs.Origins.{OriginValue}
use Rattle.ether_format.specs.declared.moment.Moment.{Moment}
use Rattle.ether_format.specs.Members.{Value, Nothing, Number, Protocol, Flag, Bytes, Dotted, Word, Text, Time, Within, Member, packet_members}
use Rattle.ether_pcap.specs.Capture.{PacketValue}
use Rattle.ether_fields.specs.Fields.{section_name}
use Rattle.ether_format.specs.declared.end.End.{End}
use Rattle.ether_format.specs.Told.{Told, end_section}
use Rattle.ether_make.specs.PacketJson.{value_json, members_before, members_json, headers_json, packet_json_of}

flat_if : (t : Bool) (a b : List ℕ) → depth (cond t (string a) (number b)) ≡ 0
flat_if true a b = refl
flat_if false a b = refl

value_flat : (v : Value) → depth (value_json v) ≡ 0
value_flat Nothing = refl
value_flat (Number n) = refl
value_flat (Protocol n) = refl
value_flat (Flag b) = refl
value_flat (Bytes bytes) = refl
value_flat (Dotted bytes) = refl
value_flat (Word word) = refl
value_flat (Text bytes) = refl
value_flat (Time m) = flat_if _ _ _
value_flat (Within interval m) = refl

before_depth : (ms : List Member) (rest : Members) → members_depth (members_before ms rest) ≡ members_depth rest
before_depth [] rest = refl
before_depth (m ∷ ms) rest = omega (arith, value_flat m.value, before_depth ms rest)

object_depth : (ms : List Member) → depth (members_json ms) ≤ 1
object_depth ms = omega (arith, before_depth ms no_members)

headers_depth : (f : Told → List Member) (hs : List Told) → items_depth (headers_json f hs) ≤ 1
headers_depth f [] = omega arith
headers_depth f (h ∷ hs) = omega (arith, object_depth (f h), headers_depth f hs)

pub packet_depth : (f : Told → List Member) (last : List Member) (origin : OriginValue) (p : PacketValue)
    (moment : Option Moment) (hs : List Told) (end : End)
    → depth (packet_json_of f last origin p moment hs end) ≤ 3
packet_depth f last origin p moment hs end =
    let ending : Members = member (section_name (end_section end)) (members_json last) no_members in
    let others : Members = member (codes "headers") (array (headers_json f hs)) ending in
    let first = before_depth (packet_members origin p moment) others in
    omega (arith, first, headers_depth f hs, object_depth last)
