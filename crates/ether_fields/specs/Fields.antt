-- The rows of each section, and fields as they are declared.
use Rattle.std.specs.Prelude.{ℕ, nat_eq, List, [], ◌∷◌, ◌++◌, codes, map, Option, None, if◌then◌else◌}
use Rattle.std.specs.List.{find}
use Rattle.std.specs.Option.{option_map, option_or}
use Rattle.ether_fields.specs.Rows.{Row, ethernet2_rows, linux_sll_rows, linux_sll2_rows, vlan_rows, macsec_rows, arp_rows, frame_rows, place_rows, rest_rows, fault_rows}
use Rattle.ether_fields.specs.declared.field.Field.{Field}
use Rattle.ether_fields.specs.declared.section.Section.{Section}
use Rattle.ether_fields.specs.declared.section.Section.TheVariants.{Frame, Eth, Sll, Sll2, Vlan, Macsec, Arp, Headers, Rest, Fault}

abbrev pub section_name : Section → List ℕ
section_name Frame = codes "frame"
section_name Eth = codes "eth"
section_name Sll = codes "sll"
section_name Sll2 = codes "sll2"
section_name Vlan = codes "vlan"
section_name Macsec = codes "macsec"
section_name Arp = codes "arp"
section_name Headers = codes "headers"
section_name Rest = codes "rest"
section_name Fault = codes "fault"

-- the rows of a section; those of a header are after its name and its place
abbrev pub section_rows : Section → List Row
section_rows Frame = frame_rows
section_rows Eth = place_rows ++ ethernet2_rows
section_rows Sll = place_rows ++ linux_sll_rows
section_rows Sll2 = place_rows ++ linux_sll2_rows
section_rows Vlan = place_rows ++ vlan_rows
section_rows Macsec = place_rows ++ macsec_rows
section_rows Arp = place_rows ++ arp_rows
section_rows Headers = place_rows
section_rows Rest = rest_rows
section_rows Fault = fault_rows

-- the name of a field as a column
abbrev pub column_name : Section → Row → List ℕ
column_name s r = section_name s ++ (codes "." ++ r.name)

-- the names of those that objects have
abbrev pub member_names : List Row → List (List ℕ)
member_names [] = []
member_names (r ∷ rs) = if r.is_member then r.name ∷ member_names rs else member_names rs

-- .. and of those that are columns
abbrev pub column_names : List Row → List (List ℕ)
column_names [] = []
column_names (r ∷ rs) = if r.is_column then r.name ∷ column_names rs else column_names rs

-- ---- fields by number

abbrev pub sections : List Section
sections = Frame ∷ Eth ∷ Sll ∷ Sll2 ∷ Vlan ∷ Macsec ∷ Arp ∷ Headers ∷ Rest ∷ Fault ∷ []

-- the row with this number
abbrev pub row_numbered : ℕ → List Row → Option Row
row_numbered number rows = find (λ r. nat_eq r.number number) rows

-- .. in one of these sections, with that section
abbrev pub numbered_among : ℕ → List Section → Option (Section × Row)
numbered_among number [] = None
numbered_among number (s ∷ ss) =
    option_or (option_map (λ r. (s, r)) (row_numbered number (section_rows s))) (numbered_among number ss)

-- the section and the row with this number; 0 is that of fields that have no bits
unfoldable pub field_numbered : ℕ → Option (Section × Row)
field_numbered number = if nat_eq number 0 then None else numbered_among number sections

-- ---- as they are declared

abbrev pub field_view : Field → Row
field_view f = record {
  name = f.name.now;
  title = f.title.now;
  abbreviation = f.abbreviation.now;
  kind = f.kind;
  extent = f.extent;
  number = f.number;
  symbol = f.symbol.now;
  is_member = f.is_member;
  is_column = f.is_column;
}

-- a name in an object (RFC 8259, 4), after what precedes it
abbrev pub key_after : (before : List ℕ) → Row → List ℕ
key_after before r = before ++ (codes "\"" ++ (r.name ++ codes "\":"))

-- the first after a brace, each other after a comma
abbrev pub keys_of : List Row → List (List ℕ)
keys_of [] = []
keys_of (r ∷ rs) = key_after (codes "{") r ∷ map (key_after (codes ",")) rs
