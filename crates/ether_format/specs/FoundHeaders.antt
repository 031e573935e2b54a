-- Headers that are found in a packet: for the contracts of private functions.
use Rattle.std.specs.Prelude.{ℕ, List, Option, None}
use Rattle.etherparse.specs.Header as headers
use Rattle.etherparse.specs.Ethernet2.{fcs_of}
use Rattle.ether_peel.specs.Walker.UnitHeader.{unit_header}
use Rattle.ether_peel.specs.declared.peel_unit.PeelUnit.{PeelUnit}
use Rattle.ether_peel.specs.declared.peel_unit.PeelUnit.TheVariants as units
use Rattle.ether_sll2.specs.LinuxSll2.{linux_sll2_of}
use Rattle.ether_content.specs.ContentViews.{cooked_view}
use Rattle.ether_fields.specs.Units.{header_section}
use Rattle.ether_fields.specs.declared.section.Section.{Section}
use Rattle.ether_fields.specs.declared.section.Section.TheVariants as sections
use Rattle.ether_format.specs.declared.found_header.FoundHeader.{FoundHeader}
use Rattle.ether_format.specs.declared.found_header.FoundHeader.TheVariants as found
use Rattle.ether_format.specs.declared.place.Place.{Place}
use Rattle.ether_format.specs.Members.{Value, linux_sll_values, linux_sll2_values}
use Rattle.ether_format.specs.Brief.{brief_header, brief_cooked_v2}
use Rattle.ether_format.specs.Told.{Told, Walked, CookedV2}
use Rattle.ether_fields.specs.Rows.{linux_sll_rows, linux_sll2_rows}
use Rattle.ether_format.specs.Values.{Keyed, keyed_after, unit_keyed, unit_values}

-- the frame check sequence of a view
abbrev pub fcs_shown : PeelUnit → Option (List ℕ)
fcs_shown (units.Ethernet2 frame) = fcs_of frame
fcs_shown _ = None

-- its section
abbrev pub found_section : FoundHeader → Section
found_section (found.Walked u) = header_section (unit_header u)
found_section (found.Cooked header) = sections.Sll
found_section (found.CookedV2 packet) = sections.Sll2

-- .. in its place
abbrev pub header_told : Place → FoundHeader → Told
header_told place (found.Walked u) = Walked place (unit_header u) (fcs_shown u)
header_told place (found.Cooked header) = Walked place (headers.LinuxSll (cooked_view header)) None
header_told place (found.CookedV2 packet) = CookedV2 place (linux_sll2_of packet)

-- the values of its own fields
abbrev pub found_values : FoundHeader → List (Option Value)
found_values (found.Walked u) = unit_values u
found_values (found.Cooked header) = linux_sll_values (cooked_view header)
found_values (found.CookedV2 packet) = linux_sll2_values (linux_sll2_of packet)

-- its text in a line for the eye
abbrev pub found_brief : FoundHeader → List ℕ
found_brief (found.Walked u) = brief_header (unit_header u)
found_brief (found.Cooked header) = brief_header (headers.LinuxSll (cooked_view header))
found_brief (found.CookedV2 packet) = brief_cooked_v2 (linux_sll2_of packet)

-- its own members, as others precede them in an object
abbrev pub found_keyed : FoundHeader → List Keyed
found_keyed (found.Walked u) = unit_keyed u
found_keyed (found.Cooked header) = keyed_after linux_sll_rows (linux_sll_values (cooked_view header))
found_keyed (found.CookedV2 packet) = keyed_after linux_sll2_rows (linux_sll2_values (linux_sll2_of packet))
