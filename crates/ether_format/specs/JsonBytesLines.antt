-- A line that says each byte of a packet, as it is written along a walk: for the contracts of private functions.
use Rattle.std.specs.Prelude.{◌≡◌, ℕ, nat_eq, if◌then◌else◌, List, [], ◌++◌, codes, false, Option, None}
use Rattle.std.specs.Fmt.{decimal}
use Rattle.etherparse.specs.Ethernet2.{ethernet2_of}
use Rattle.ether_fields.specs.Rows.{ethernet2_rows}
use Rattle.ether_peel.specs.declared.peel_unit.PeelUnit.{PeelUnit}
use Rattle.ether_peel.specs.declared.peel_unit.PeelUnit.TheVariants as units
use Rattle.ether_output.specs.OutputBuffer.{Takes}
use Rattle.ether_output.specs.declared.output_buffer.OutputBuffer.{OutputBuffer}
use Rattle.ether_output.specs.HexText.{hex_text}
use Rattle.ether_format.specs.declared.json_bytes.ExactHeaders.{ExactHeaders}
use Rattle.ether_format.specs.declared.found_header.FoundHeader.{FoundHeader}
use Rattle.ether_format.specs.declared.found_header.FoundHeader.TheVariants as found
use Rattle.ether_format.specs.FoundHeaders.{found_keyed, found_values}
use Rattle.ether_format.specs.Json.{json_object}
use Rattle.ether_format.specs.JsonBytes.{exact_members}
use Rattle.ether_format.specs.Members.{Value, ethernet2_values}
use Rattle.ether_format.specs.Told.{Told}
use Rattle.ether_format.specs.Values.{Keyed, comma_if, keyed_after, unit_keyed}

-- reserved bits, after other members
abbrev pub reserved_text : (bits : ℕ) → List ℕ
reserved_text bits = if nat_eq bits 0 then [] else codes ",\"reserved\":" ++ decimal bits

-- the bytes after the headers, after other members, and the end of the line
abbrev pub bytes_text : List ℕ → List ℕ
bytes_text bytes = codes ",\"bytes\":\"" ++ (hex_text bytes ++ codes "\"}}\n")

-- its own values, without a frame check sequence
abbrev pub exact_values : FoundHeader → List (Option Value)
exact_values (found.Walked (units.Ethernet2 f)) = ethernet2_values (ethernet2_of f.bytes) None
exact_values h = found_values h

-- .. as members that others precede
abbrev pub exact_unit_keyed : PeelUnit → List Keyed
exact_unit_keyed (units.Ethernet2 f) = keyed_after ethernet2_rows (ethernet2_values (ethernet2_of f.bytes) None)
exact_unit_keyed u = unit_keyed u

abbrev pub exact_keyed : FoundHeader → List Keyed
exact_keyed (found.Walked u) = exact_unit_keyed u
exact_keyed h = found_keyed h

-- a header as an object
abbrev pub TakesExactHeader : {W : Type 0} → (contents : W → Option (List ℕ)) → (can_fail : Type 0) → ExactHeaders
    → OutputBuffer W → Told → ExactHeaders → OutputBuffer W → Type 0
TakesExactHeader contents can_fail old out told new out_new =
    (new ≡ record old { is_first = false })
    × Takes contents can_fail out (comma_if old.is_first ++ json_object (exact_members old.packet.now told)) out_new
