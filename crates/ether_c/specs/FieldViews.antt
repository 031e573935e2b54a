-- Fields that are written one after another: for the contracts of private functions.
use Rattle.std.specs.Prelude.{ℕ, ◌+◌, ◌*◌, ◌≤◌, List, [], ◌∷◌, ◌++◌, length, map, slice_set}
use Rattle.etherparse.specs.Header.{Header}
use Rattle.ether_c.specs.declared.ether_field.EtherField.{EtherField}
use Rattle.ether_fields.specs.declared.field_place.FieldPlace.{FieldPlace}
use Rattle.ether_fields.specs.Units.{header_fields, trailer_fields}
use Rattle.ether_c.specs.FieldTables.{moved}
use Rattle.ether_c.specs.Fields.{c_field}

-- an array after elements were written from an index on, as far as it has these indexes
abbrev pub put_all : List EtherField → (at : ℕ) → List EtherField → List EtherField
put_all list at [] = list
put_all list at (x ∷ xs) = put_all (slice_set list at x) (at + 1) xs

-- the fields of something that starts at this byte are inside a list
abbrev pub AreIn : List ℕ → (start : ℕ) → List FieldPlace → Type 0
AreIn list start [] = Unit {0}
AreIn list start (f ∷ fs) = (8 * start + (f.first + f.len) ≤ 8 * length list) × AreIn list start fs

-- the fields of a table, of something that starts at this byte, in the unit with this index
abbrev pub c_table : List ℕ → (unit start : ℕ) → List FieldPlace → List EtherField
c_table list unit start table = map (c_field list unit) (map (moved start) table)

-- the fields of a unit: of the header, which starts at one byte, and of what follows the payload, which ends at
-- another
abbrev pub c_placed_fields : List ℕ → (unit start finish : ℕ) → Header → List EtherField
c_placed_fields list unit start finish h =
    c_table list unit start (header_fields h) ++ c_table list unit finish (trailer_fields h)
