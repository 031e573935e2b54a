-- What fields and numbers are called.
use Rattle.std.specs.Prelude.{◌≡◌, ℕ, List, Option, Some, None, nat_eq, if◌then◌else◌}
use Rattle.ether_base.specs.Texts.NumberText.{description_in}
use Rattle.ether_fields.specs.Fields.{column_name, field_numbered}
use Rattle.ether_fields.specs.Names.{names_of}
use Rattle.ether_fields.specs.Rows.{Row}
use Rattle.ether_fields.specs.declared.kind.Kind.{Kind}
use Rattle.ether_fields.specs.declared.section.Section.{Section}
use Rattle.ether_c.specs.Calls.{PutsBytes}
use Rattle.ether_c.specs.Numbers.{field_kind_number, field_kind_numbered, no_text}

-- a text is written to the target; or there is none, and nothing is written
abbrev pub PutsIfAny : Option (List ℕ) → (old new : List ℕ) → (status len : ℕ) → Type 0
PutsIfAny None old new status len = (status ≡ no_text) × (len ≡ 0) × (new ≡ old)
PutsIfAny (Some text) old new status len = PutsBytes text old new status len

-- ---- fields

-- The parts of a field's row that are texts, by number: its name as a column, its title, and its abbreviation, which
-- may be empty.
abbrev pub part_text : (part : ℕ) → Section → Row → Option (List ℕ)
part_text part s r =
    if nat_eq part 1 then Some (column_name s r)
    else (if nat_eq part 2 then Some r.title else (if nat_eq part 3 then Some r.abbreviation else None))

abbrev pub found_text : (part : ℕ) → Option (Section × Row) → Option (List ℕ)
found_text part None = None
found_text part (Some f) = part_text part f.0 f.1

-- a part of the field with this number, if there are both
abbrev pub field_text : (name part : ℕ) → Option (List ℕ)
field_text name part = found_text part (field_numbered name)

abbrev pub found_kind : Option (Section × Row) → ℕ
found_kind None = 0
found_kind (Some f) = field_kind_number f.1.kind

-- what the value of the field with this number is, as a number; 0 if there is no such field
abbrev pub field_kind : (name : ℕ) → ℕ
field_kind name = found_kind (field_numbered name)

-- ---- numbers

abbrev pub name_in : Option Kind → (number : ℕ) → Option (List ℕ)
name_in None number = None
name_in (Some k) number = description_in (names_of k) number

-- the name of a number of the kind with this number, if it has one
abbrev pub number_name : (kind number : ℕ) → Option (List ℕ)
number_name kind number = name_in (field_kind_numbered kind) number
