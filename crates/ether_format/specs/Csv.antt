-- A packet as a record of CSV (RFC 4180, 2).
use Rattle.std.specs.Prelude.{ℕ, nat_eq, ◌||◌, List, [], ◌∷◌, ◌++◌, codes, Bool, false, if◌then◌else◌}
use Rattle.std.specs.List.{flat_map, join_by}
use Rattle.ether_format.specs.Columns.{ColumnValue, Section, column_name, values_in}
use Rattle.ether_format.specs.Members.{Value, Text}
use Rattle.ether_format.specs.Spelling.{column_value}

-- a double quote (34), a comma (44), CR (13) or LF (10)
abbrev pub is_special : ℕ → Bool
is_special b = nat_eq b 34 || (nat_eq b 44 || (nat_eq b 13 || nat_eq b 10))

abbrev pub has_special : List ℕ → Bool
has_special [] = false
has_special (b ∷ bs) = is_special b || has_special bs

-- each double quote with another one before it (rule 7)
abbrev pub escaped : List ℕ → List ℕ
escaped text = flat_map (λ b. if nat_eq b 34 then 34 ∷ 34 ∷ [] else b ∷ []) text

-- a field that has one of these is enclosed in double quotes (rule 6), any other one is not (rule 5)
abbrev pub csv_field : List ℕ → List ℕ
csv_field text = if has_special text then codes "\"" ++ (escaped text ++ codes "\"") else text

-- fields with a comma between two (rule 4), on a line that ends with CR LF (rule 1)
abbrev pub csv_record : {X : Type 0} → (text : X → List ℕ) → List X → List ℕ
csv_record text columns = join_by (λ c. csv_field (text c)) (codes ",") columns ++ (13 ∷ 10 ∷ [])

-- a text as its own bytes, another value as in a row
abbrev pub csv_value : Value → List ℕ
csv_value (Text bytes) = bytes
csv_value value = column_value value

-- the values of a column, with a comma between two
abbrev pub csv_text : ColumnValue → List Section → List ℕ
csv_text c parts = join_by csv_value (codes ",") (flat_map (values_in c) parts)

-- the columns of a packet
abbrev pub csv_row : List ColumnValue → List Section → List ℕ
csv_row columns parts = csv_record (λ c. csv_text c parts) columns

-- the line of their names (rule 3)
abbrev pub csv_heading : List ColumnValue → List ℕ
csv_heading columns = csv_record column_name columns
