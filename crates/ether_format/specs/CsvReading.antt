-- A record of CSV as it is read (RFC 4180, 2).
use Rattle.std.specs.Prelude.{◌≡◌, ◌⊎◌, ℕ, List, [], ◌∷◌, ◌++◌, codes, map, false}
use Rattle.ether_format.specs.Columns.{ColumnValue, Section, column_name}
use Rattle.ether_format.specs.Csv.{csv_heading, csv_row, csv_text, escaped, has_special}

-- A field with this text is the text itself, if no byte asks for double quotes; or it is enclosed.
abbrev pub IsField : (text field : List ℕ) → Type 0
IsField text field =
    ((has_special text ≡ false) × (field ≡ text)) ⊎ (field ≡ codes "\"" ++ (escaped text ++ codes "\""))

-- fields with these texts, with a comma between two, and CR LF
abbrev pub IsRecord : (texts : List (List ℕ)) → (line : List ℕ) → Type 0
IsRecord [] line = ⊥
IsRecord (text ∷ []) line = (field : List ℕ) × IsField text field × (line ≡ field ++ (13 ∷ 10 ∷ []))
IsRecord (text ∷ next ∷ texts) line =
    (field : List ℕ) × (rest : List ℕ) × IsField text field × (line ≡ field ++ (codes "," ++ rest))
    × IsRecord (next ∷ texts) rest

-- What is written is a record of the texts, whatever bytes they have; and a line is a record of no other texts.
pub record RecordsAreRead : Type 0 where
  pub row : (column : ColumnValue) (columns : List ColumnValue) (parts : List Section)
      → IsRecord (map (λ c. csv_text c parts) (column ∷ columns)) (csv_row (column ∷ columns) parts)
  pub heading : (column : ColumnValue) (columns : List ColumnValue)
      → IsRecord (map column_name (column ∷ columns)) (csv_heading (column ∷ columns))
  pub one : (texts others : List (List ℕ)) (line : List ℕ) → IsRecord texts line → IsRecord others line
      → texts ≡ others
