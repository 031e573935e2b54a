-- Lines of fields. The first line names the columns.
use Rattle.std.specs.Prelude.{◌==◌, ℕ, ◌+◌, ◌-◌, ◌*◌, List, [], ◌∷◌, ◌++◌, codes, length, map, Bool, true, false, Option, Some, None, if◌then◌else◌}
use Rattle.std.specs.List.{flat_map, sum_by}
use Rattle.std.specs.Str.{bytes_eq}
use Rattle.ether_capture.specs.KeyCounts.{Hit, count_of, one_packet}
use Rattle.ether_stream.specs.Packets.{counted}
use Rattle.ether_capture.specs.declared.count.Count.{Count}

-- ---- lines and fields

-- the pieces of a text that a byte ends, each without it; the first also has the bytes `before`
abbrev pub pieces : (byte : ℕ) → (before text : List ℕ) → List (List ℕ)
pieces byte before [] = []
pieces byte before (b ∷ bs) = if b == byte then before ∷ pieces byte [] bs else pieces byte (before ++ b ∷ []) bs

-- what follows the last of them
abbrev pub last_piece : (byte : ℕ) → (before text : List ℕ) → List ℕ
last_piece byte before [] = before
last_piece byte before (b ∷ bs) = if b == byte then last_piece byte [] bs else last_piece byte (before ++ b ∷ []) bs

-- a line ends in a line feed (10)
abbrev pub lines_of : List ℕ → List (List ℕ)
lines_of text = pieces 10 [] text

-- between two fields is a tab (9)
abbrev pub row_fields : List ℕ → List (List ℕ)
row_fields line = pieces 9 [] line ++ last_piece 9 [] line ∷ []

abbrev pub fields_if : Option (List ℕ) → List (List ℕ)
fields_if None = []
fields_if (Some text) = row_fields text

-- ---- what is counted

-- the number that decimal digits spell after those of `before`; the digit 0 is 48
abbrev pub decimal_value : ℕ → List ℕ → ℕ
decimal_value before [] = before
decimal_value before (d ∷ ds) = decimal_value (before * 10 + (d - 48)) ds

-- the key of a column's text
abbrev pub key_text : (column text : List ℕ) → List ℕ
key_text column text = column ++ (codes "\t" ++ text)

abbrev pub key_if : (column text : List ℕ) → List (List ℕ)
key_if column [] = []
key_if column (b ∷ bs) = key_text column (b ∷ bs) ∷ []

-- those of the columns that have a text
abbrev pub keys_in : (columns fields : List (List ℕ)) → List (List ℕ)
keys_in [] fields = []
keys_in (c ∷ cs) [] = []
keys_in (c ∷ cs) (f ∷ fs) = key_if c f ++ keys_in cs fs

abbrev pub after_first : List (List ℕ) → List (List ℕ)
after_first [] = []
after_first (f ∷ fs) = fs

-- a packet that had `bytes` bytes, under each key
abbrev pub hits_under : (bytes : ℕ) → (keys : List (List ℕ)) → List Hit
hits_under bytes keys = map (λ k. record { key = k; count = one_packet bytes }) keys

-- the first column is the length of the packet
abbrev pub fields_bytes : (fields : List (List ℕ)) → ℕ
fields_bytes [] = 0
fields_bytes (len ∷ fields) = counted (decimal_value 0 len)

-- texts with a tab (9) between two
abbrev pub joined : List (List ℕ) → List ℕ
joined [] = []
joined (f ∷ fs) = f ++ flat_map (λ g. 9 ∷ g) fs

abbrev pub are_empty : List (List ℕ) → Bool
are_empty [] = true
are_empty ([] ∷ fs) = are_empty fs
are_empty ((b ∷ bs) ∷ fs) = false

-- the key of the texts of all columns together, unless all are empty
abbrev pub joint_keys : (columns fields : List (List ℕ)) → List (List ℕ)
joint_keys columns fields = if are_empty fields then [] else key_text (joined columns) (joined fields) ∷ []

-- the packet counts for each of the others that has a text, or for all of them together
abbrev pub row_keys : (joint : Bool) → (columns fields : List (List ℕ)) → List (List ℕ)
row_keys false columns fields = keys_in columns fields
row_keys true columns fields = joint_keys columns fields

abbrev pub fields_hits : (joint : Bool) → (columns fields : List (List ℕ)) → List Hit
fields_hits joint columns fields =
    hits_under (fields_bytes fields) (row_keys joint (after_first columns) (after_first fields))

abbrev pub row_hits : (joint : Bool) → (heading row : List ℕ) → List Hit
row_hits joint heading row = fields_hits joint (row_fields heading) (row_fields row)

abbrev pub row_bytes : (row : List ℕ) → ℕ
row_bytes row = fields_bytes (row_fields row)

-- of the rows after a heading
abbrev pub lines_hits : (joint : Bool) → List (List ℕ) → List Hit
lines_hits joint [] = []
lines_hits joint (heading ∷ rows) = flat_map (row_hits joint heading) rows

-- all packets of these rows
abbrev pub total_of : List (List ℕ) → Count
total_of [] = record { packets = 0; bytes = 0 }
total_of (heading ∷ rows) = record { packets = counted (length rows); bytes = counted (sum_by row_bytes rows) }

-- their count has a key of its own
abbrev pub with_total : Count → (table : (key : List ℕ) → Option Count) → (key : List ℕ) → Option Count
with_total total table key = if bytes_eq (key_text (codes "total") []) key then Some total else table key

abbrev pub lines_counts : (joint : Bool) → List (List ℕ) → (key : List ℕ) → Option Count
lines_counts joint lines = with_total (total_of lines) (count_of (lines_hits joint lines))
