-- Values as they are read and written: for the contracts of private functions.
use Rattle.std.specs.Prelude.{◌≡◌, ℕ, List, [], ◌∷◌, ◌++◌, take, codes, Bool, true, false, Option, Some, None, slice_index_or, unwrap_or}
use Rattle.std.specs.Option.{option_map}
use Rattle.etherparse.specs.Arp.{arp_of}
use Rattle.etherparse.specs.Ethernet2.{ethernet2_of, fcs_of}
use Rattle.etherparse.specs.LinuxSll.{linux_sll_of}
use Rattle.etherparse.specs.Macsec.{sec_tag_of, tag_bytes}
use Rattle.etherparse.specs.Vlan.{vlan_of}
use Rattle.ether_peel.specs.declared.peel_unit.PeelUnit.{PeelUnit}
use Rattle.ether_peel.specs.declared.peel_unit.PeelUnit.TheVariants as units
use Rattle.ether_pcap.specs.Capture.{PacketValue, TimeValue}
use Rattle.ether_output.specs.OutputBuffer.{Takes}
use Rattle.ether_output.specs.declared.output_buffer.OutputBuffer.{OutputBuffer}
use Rattle.ether_fields.specs.declared.section.Section.{Section}
use Rattle.ether_fields.specs.declared.section.Section.TheVariants as sections
use Rattle.ether_format.specs.declared.end.End.{End}
use Rattle.ether_format.specs.declared.moment.Moment.{Moment}
use Rattle.ether_format.specs.declared.value.Value.{Value as DeclaredValue}
use Rattle.ether_format.specs.declared.value.Value.TheVariants as values
use Rattle.ether_format.specs.declared.value.Shown.{Shown}
use Rattle.ether_format.specs.declared.value.Shown.TheVariants as shown
use Rattle.ether_format.specs.Calendar.{AreMoments}
use Rattle.ether_format.specs.Members.{Value, Nothing, Number, Protocol, Flag, Bytes, Dotted, Word, Text, Time, Within, if_some, ethernet2_values, vlan_values, macsec_values, arp_values, linux_sll_values, packet_columns, packet_values}
use Rattle.ether_format.specs.Spelling.{column_value, json_value}
use Rattle.ether_format.specs.Told.{Told, end_members, end_section, told_members, told_place_values, told_section}
use Rattle.ether_format.specs.Columns.{ColumnValue, section, values_in}
use Rattle.ether_fields.specs.Fields.{key_after, section_name}
use Rattle.ether_fields.specs.Rows.{Row, arp_rows, ethernet2_rows, frame_rows, linux_sll_rows, macsec_rows, place_rows, vlan_rows}
use Rattle.ether_format.specs.Members as m
use Rattle.ether_format.specs.Origins.{OriginValue}

-- ---- values

abbrev pub value_view : DeclaredValue → Value
value_view values.Nothing = Nothing
value_view (values.Number n) = Number n
value_view (values.Protocol n) = Protocol n
value_view (values.Flag b) = Flag b
value_view (values.Mac bytes) = Bytes bytes
value_view (values.Four bytes) = Bytes bytes
value_view (values.Eight bytes) = Bytes bytes
value_view (values.Short bytes len) = Bytes (take len bytes)
value_view (values.Bytes bytes) = Bytes bytes.now
value_view (values.Dotted bytes) = Dotted bytes.now
value_view (values.Word word) = Word word.now
value_view (values.Text bytes) = Text bytes.now

-- the value at an index, if there is one
abbrev pub value_at : List (Option Value) → ℕ → Option Value
value_at values n = slice_index_or values n None

-- the values of the fields of a unit's header
abbrev pub unit_values : PeelUnit → List (Option Value)
unit_values (units.Ethernet2 f) = ethernet2_values (ethernet2_of f.bytes) (fcs_of f)
unit_values (units.LinuxSll bytes) = linux_sll_values (linux_sll_of bytes)
unit_values (units.Vlan bytes) = vlan_values (vlan_of bytes)
unit_values (units.Macsec packet) = macsec_values (sec_tag_of (tag_bytes packet.header))
unit_values (units.Arp bytes) = arp_values (arp_of bytes)

-- what a packet itself shows, at a moment
abbrev pub shown_view : Option Moment → Shown → Value
shown_view moment shown.Time = if_some Time moment
shown_view moment (shown.Within interval) = if_some (Within interval) moment
shown_view moment (shown.Value v) = value_view v

-- .. in a field
abbrev pub ShowsField : OriginValue → PacketValue → (index : ℕ) → Option Shown → Type 0
ShowsField origin p index s =
    (moment : Option Moment) → option_map (shown_view moment) s ≡ value_at (packet_columns origin p moment) index

-- a text of the moment of a time is written
abbrev pub TakesTimed : {W : Type 0} → (contents : W → Option (List ℕ)) → (can_fail : Type 0) → Option TimeValue
    → (text : Option Moment → List ℕ) → (old new : OutputBuffer W) → Type 0
TakesTimed contents can_fail time text old new =
    (moment : Option Moment) → AreMoments time moment → Takes contents can_fail old (text moment) new

-- ---- in an object

-- a comma, but nothing before the first
abbrev pub comma_if : (first : Bool) → List ℕ
comma_if true = []
comma_if false = codes ","

-- a value after the text of its name
pub record Keyed : Type 0 where
  pub key : List ℕ
  pub value : Value

abbrev pub keyed_with : (key : List ℕ) → Option Value → Keyed
keyed_with key value = record { key = key; value = unwrap_or value Nothing }

abbrev pub keyed_text : Keyed → List ℕ
keyed_text k = k.key ++ json_value k.value

-- the members of rows that others precede
abbrev pub keyed_after : List Row → List (Option Value) → List Keyed
keyed_after (r ∷ rs) (Some v ∷ vs) = record { key = key_after (codes ",") r; value = v } ∷ keyed_after rs vs
keyed_after (r ∷ rs) (None ∷ vs) = keyed_after rs vs
keyed_after rows values = []

-- .. of an object from its first member on
abbrev pub keyed : List Row → List (Option Value) → List Keyed
keyed (r ∷ rs) (Some v ∷ vs) = record { key = key_after (codes "{") r; value = v } ∷ keyed_after rs vs
keyed rows values = []

-- the members of a unit's header after its place
abbrev pub unit_keyed : PeelUnit → List Keyed
unit_keyed (units.Ethernet2 f) = keyed_after ethernet2_rows (unit_values (units.Ethernet2 f))
unit_keyed (units.LinuxSll bytes) = keyed_after linux_sll_rows (unit_values (units.LinuxSll bytes))
unit_keyed (units.Vlan bytes) = keyed_after vlan_rows (unit_values (units.Vlan bytes))
unit_keyed (units.Macsec packet) = keyed_after macsec_rows (unit_values (units.Macsec packet))
unit_keyed (units.Arp bytes) = keyed_after arp_rows (unit_values (units.Arp bytes))

-- the members of a packet itself
abbrev pub packet_keyed : OriginValue → PacketValue → Option Moment → List Keyed
packet_keyed origin p moment = keyed frame_rows (packet_values origin p moment)

-- ---- in a column

-- its value, if there is one
abbrev pub if_any : Option Value → List Value
if_any None = []
if_any (Some value) = value ∷ []

-- the values of a column in a header
abbrev pub header_shown : ColumnValue → Told → List Value
header_shown c h =
    values_in c (section (section_name (told_section h)) (told_members h))
    ++ values_in c (section (codes "headers") (m.members place_rows (told_place_values h)))

-- .. in how a walk ends
abbrev pub end_shown : ColumnValue → End → List Value
end_shown c end = values_in c (section (section_name (end_section end)) (end_members end))

-- whether a section is one of these
abbrev pub is_end_section : Section → Bool
is_end_section sections.Rest = true
is_end_section sections.Fault = true
is_end_section _ = false

-- values with a comma between two, and one before the first if others precede
abbrev pub column_on : (first : Bool) → List Value → List ℕ
column_on first [] = []
column_on first (v ∷ vs) = comma_if first ++ (column_value v ++ column_on false vs)

-- whether the value after these is the first
abbrev pub still_first : (first : Bool) → List Value → Bool
still_first first [] = first
still_first first (v ∷ vs) = false
