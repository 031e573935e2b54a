-- Whether a column has several values in a packet: for the contracts of private functions.
use Rattle.std.specs.Prelude.{◌≡◌, ℕ, codes, List, [], ◌∷◌, Bool, true, false, Option, Some, None}
use Rattle.ether_output.specs.OutputBuffer.{Takes}
use Rattle.ether_output.specs.declared.output_buffer.OutputBuffer.{OutputBuffer}
use Rattle.ether_format.specs.declared.column.Column.{Column as DeclaredColumn}
use Rattle.ether_format.specs.declared.row.RowPacket.{RowPacket}
use Rattle.ether_format.specs.declared.csv.Count.{Count}
use Rattle.ether_format.specs.declared.csv.Count.TheVariants.{Zero, One, Several}
use Rattle.ether_format.specs.declared.csv.ValueCounter.{ValueCounter}
use Rattle.ether_format.specs.Columns.{ColumnValue, column_view, sections as sections_told}
use Rattle.ether_format.specs.Csv.{csv_field, csv_row, csv_text, csv_value}
use Rattle.ether_format.specs.Gathered.{OnTold, shown_values}
use Rattle.ether_format.specs.Members.{Text, Value, Word}
use Rattle.ether_format.specs.Told.{Told}
use Rattle.ether_format.specs.Values.{header_shown}

-- a count and these values
abbrev pub counted : Count → List Value → Count
counted count [] = count
counted Zero (v ∷ vs) = counted One vs
counted One (v ∷ vs) = Several
counted Several (v ∷ vs) = Several

abbrev pub is_several : Count → Bool
is_several Several = true
is_several count = false

-- a double quote around a field that is enclosed
abbrev pub quote_if : (enclosed : Bool) → List ℕ
quote_if true = codes "\""
quote_if false = []

abbrev pub CountsHeader : ValueCounter → Count → Told → ValueCounter → Count → Type 0
CountsHeader old count told new next = (new ≡ old) × (next ≡ counted count (header_shown (column_view old.column) told))

-- a column has several values in the headers of a packet
abbrev pub TellsSeveral : DeclaredColumn → RowPacket → (several : Bool) → Type 0
TellsSeveral c row several =
    OnTold row (λ origin p moment told end. several ≡ is_several (counted Zero (shown_values (column_view c) told)))

-- the bytes of a text or a word
abbrev pub text_in : Value → Option (List ℕ)
text_in (Text bytes) = Some bytes
text_in (Word word) = Some word
text_in value = None

-- the text of a value, if there is one
abbrev pub only_text : Option Value → List ℕ
only_text None = []
only_text (Some value) = csv_value value

abbrev pub TakesField : {W : Type 0} → (contents : W → Option (List ℕ)) → (can_fail : Type 0) → DeclaredColumn
    → RowPacket → (old new : OutputBuffer W) → Type 0
TakesField contents can_fail c row old new =
    OnTold row
    (λ origin p moment told end.
    Takes contents can_fail old (csv_field (csv_text (column_view c) (sections_told origin p moment told end))) new)

abbrev pub TakesRecord : {W : Type 0} → (contents : W → Option (List ℕ)) → (can_fail : Type 0) → List ColumnValue
    → RowPacket → (old new : OutputBuffer W) → Type 0
TakesRecord contents can_fail columns row old new =
    OnTold row
    (λ origin p moment told end.
    Takes contents can_fail old (csv_row columns (sections_told origin p moment told end)) new)
