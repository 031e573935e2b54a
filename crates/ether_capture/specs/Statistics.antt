-- The counts of rows as a text: a line for each key, in the order of their bytes.
use Rattle.std.specs.Prelude.{◌≡◌, ℕ, ◌/◌, List, [], ◌∷◌, ◌++◌, codes, decimal, drop, length, map, nat_lt, take, Bool, true, false, Option, Some, None, ⊤, if◌then◌else◌}
use Rattle.std.specs.Ordering.{nat_cmp}
use Rattle.std.specs.Cmp.Lexicographic.{slice_cmp}
use Rattle.std.specs.Io.KnownBytes.{Appends}
use Rattle.std.specs.List.{flat_map, join_by}
use Rattle.std.specs.List.Sorted.{IsStrictlySortedBy}
use Rattle.std.specs.Map.{lookup}
use Rattle.std.specs.Str.{bytes_eq}
use Rattle.ether_capture.specs.RowFields.{after_first, row_fields, lines_counts, lines_of}
use Rattle.ether_output.specs.OutputBuffer.{Takes}
use Rattle.ether_format.specs.Spelling.{json_text}
use Rattle.ether_capture.specs.declared.count.Count.{Count}
use Rattle.ether_capture.specs.declared.statistics_format.StatisticsFormat.{StatisticsFormat}
use Rattle.ether_capture.specs.declared.statistics_format.StatisticsFormat.TheVariants.{Text, Json}
use Rattle.ether_output.specs.declared.output_buffer.OutputBuffer.{OutputBuffer}

-- a key and its count
pub record StatisticsRow : Type 0 where
  pub key : List ℕ
  pub count : Count

abbrev pub first_in : List (List ℕ) → List ℕ
first_in [] = []
first_in (f ∷ fs) = f

abbrev pub fields_line : StatisticsRow → List ℕ
fields_line r =
    r.key ++ (codes "\t" ++ (decimal r.count.packets ++ (codes "\t" ++ (decimal r.count.bytes ++ codes "\n"))))

-- an array of strings (RFC 8259, 5 and 7)
abbrev pub json_texts : List (List ℕ) → List ℕ
json_texts texts = codes "[" ++ (join_by json_text (codes ",") texts ++ codes "]")

-- The fields of a key as members of an object: the name of a column and a text. Of columns that are counted together,
-- the first half are their names, and the second their texts.
abbrev pub key_members : List (List ℕ) → List ℕ
key_members fields =
    if nat_lt 2 (length fields)
    then codes "\"columns\":" ++ (json_texts (take (length fields / 2) fields)
    ++ (codes ",\"values\":" ++ json_texts (drop (length fields / 2) fields)))
    else codes "\"column\":" ++ (json_text (first_in fields)
    ++ (codes ",\"value\":" ++ json_text (first_in (after_first fields))))

-- as fields; or as an object of JSON
abbrev pub statistics_line : StatisticsFormat → StatisticsRow → List ℕ
statistics_line Text r = fields_line r
statistics_line Json r =
    codes "{" ++ (key_members (row_fields r.key) ++ (codes ",\"packets\":"
    ++ (decimal r.count.packets ++ (codes ",\"bytes\":" ++ (decimal r.count.bytes ++ codes "}\n")))))

-- these are all keys of a table, each once, in the order of their bytes
pub record AreRows (table : (key : List ℕ) → Option Count) (rows : List StatisticsRow) : Type 0 where
  pub sorted : IsStrictlySortedBy (slice_cmp nat_cmp) (map (λ r. r.key) rows)
  pub exact : (key : List ℕ) → lookup (bytes_eq key) (map (λ r. (r.key, r.count)) rows) ≡ table key

-- their lines are written
pub record TakesStatistics {W : Type 0} (contents : W → Option (List ℕ)) (can_fail : Type 0) (format : StatisticsFormat)
    (table : (key : List ℕ) → Option Count)
    (old new : OutputBuffer W) : Type 0 where
  pub rows : List StatisticsRow
  pub are_rows : AreRows table rows
  pub taken : Takes contents can_fail old (flat_map (statistics_line format) rows) new

-- this is the summary of the rows in a text, whose first line names the columns
pub record IsStatistics (joint : Bool) (format : StatisticsFormat) (text summary : List ℕ) : Type 0 where
  pub rows : List StatisticsRow
  pub are_rows : AreRows (lines_counts joint (lines_of text)) rows
  pub is_text : summary ≡ flat_map (statistics_line format) rows

-- the summary of what is known is appended
abbrev pub Shows : (is_known joint : Bool) → (text : Option (List ℕ)) → StatisticsFormat
    → (held holds : Option (List ℕ)) → Type 0
Shows false joint text format held holds = ⊤
Shows true joint None format held holds = ⊥
Shows true joint (Some text) format held holds =
    (summary : List ℕ) × IsStatistics joint format text summary × Appends held holds summary

-- the counts of a text are one text
abbrev pub StatisticsAreOne : Type 0
StatisticsAreOne =
    (joint : Bool) (format : StatisticsFormat) (text a b : List ℕ) → IsStatistics joint format text a
    → IsStatistics joint format text b → a ≡ b
