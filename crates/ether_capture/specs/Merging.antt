-- Counts that were printed are added up.
use Rattle.std.specs.Prelude.{◌≡◌, ◌≢◌, ◌⊎◌, ◌≤◌, ◌<◌, ◌+◌, ◌^◌, ℕ, List, [], ◌∷◌, ◌++◌, codes, length, Bool, Option, Ok, Err, ⊤}
use Rattle.std.specs.Io.KnownBytes.{Appends, Consumes, IsAtEnd}
use Rattle.std.specs.List.{All, flat_map}
use Rattle.ether_text.specs.Run.{IsEndless}
use Rattle.ether_text.specs.declared.verdict.Verdict.TheVariants.{AllAccepted}
use Rattle.ether_stream.specs.Packets.{counted}
use Rattle.ether_stream.specs.declared.outcome.Outcome.{Outcome}
use Rattle.ether_stream.specs.declared.outcome.Outcome.TheVariants as outcomes
use Rattle.ether_stream.specs.declared.outcome.RunFault.TheVariants.{Input, Output}
use Rattle.ether_capture.specs.KeyCounts.{Hit, count_of}
use Rattle.ether_capture.specs.RowFields.{decimal_value, last_piece, lines_of}
use Rattle.ether_capture.specs.Statistics.{AreRows, IsStatistics, StatisticsRow, statistics_line}
use Rattle.ether_capture.specs.declared.statistics_format.StatisticsFormat.{StatisticsFormat}
use Rattle.ether_capture.specs.declared.statistics_format.StatisticsFormat.TheVariants.{Text}

-- ---- lines of counts

-- a decimal digit, of 0 (48) to 9 (57)
abbrev pub IsDigit : ℕ → Type 0
IsDigit c = (48 ≤ c) × (c ≤ 57)

-- decimal digits, and the number of 64 bits that they spell
pub record IsNumber (digits : List ℕ) (number : ℕ) : Type 0 where
  pub some : digits ≢ []
  pub all : All IsDigit digits
  pub value : number ≡ decimal_value 0 digits
  pub fits : number < 2 ^ 64

-- the line of a count: its key, its packets and its bytes, with a tab between two
pub record IsCountLine (line : List ℕ) (h : Hit) : Type 0 where
  pub packets : List ℕ
  pub bytes : List ℕ
  pub parts : line ≡ h.key ++ (codes "\t" ++ (packets ++ (codes "\t" ++ bytes)))
  pub are_packets : IsNumber packets h.count.packets
  pub are_bytes : IsNumber bytes h.count.bytes

abbrev pub AreCountLines : (lines : List (List ℕ)) → (hits : List Hit) → Type 0
AreCountLines [] [] = ⊤
AreCountLines (line ∷ lines) (h ∷ hits) = IsCountLine line h × AreCountLines lines hits
AreCountLines lines hits = ⊥

-- this is the first line that is not that of a count
pub record HasOtherLine (text : List ℕ) (number : ℕ) : Type 0 where
  pub before : List (List ℕ)
  pub hits : List Hit
  pub line : List ℕ
  pub after : List (List ℕ)
  pub parts : lines_of text ≡ before ++ line ∷ after
  pub counts : AreCountLines before hits
  pub other : (h : Hit) → ¬ (IsCountLine line h)
  pub is_number : number ≡ counted (length before + 1)

-- all lines are those of counts, but the last does not end
pub record HasCutLine (text : List ℕ) (number : ℕ) : Type 0 where
  pub hits : List Hit
  pub counts : AreCountLines (lines_of text) hits
  pub cut : last_piece 10 [] text ≢ []
  pub is_number : number ≡ counted (length (lines_of text) + 1)

-- ---- their sums

-- this is the summary of the counts in a text
pub record IsMerged (format : StatisticsFormat) (text summary : List ℕ) : Type 0 where
  pub hits : List Hit
  pub counts : AreCountLines (lines_of text) hits
  pub whole : last_piece 10 [] text ≡ []
  pub rows : List StatisticsRow
  pub are_rows : AreRows (count_of hits) rows
  pub is_text : summary ≡ flat_map (statistics_line format) rows

-- all that was left was read, and the summary of the counts in it was written
pub record MergesAll (format : StatisticsFormat) (before after held holds : Option (List ℕ)) : Type 0 where
  pub text : List ℕ
  pub summary : List ℕ
  pub read : Consumes before after text
  pub at_end : IsAtEnd after
  pub merged : IsMerged format text summary
  pub written : Appends held holds summary

-- a line that is not that of a count was read
pub record StopsAtLine (before after : Option (List ℕ)) (number : ℕ) : Type 0 where
  pub text : List ℕ
  pub read : Consumes before after text
  pub stops : HasOtherLine text number ⊎ (IsAtEnd after × HasCutLine text number)

-- Counts were added up, and their sums written. Or a line is no count, or reading or memory has failed: then nothing is
-- written. Or the writer has failed.
abbrev pub HasMerged : (can_read can_write : Type 0) → StatisticsFormat → (before after held holds : Option (List ℕ))
    → Outcome → Type 0
HasMerged can_read can_write format before after held holds (outcomes.Run (Ok AllAccepted)) =
    MergesAll format before after held holds
HasMerged can_read can_write format before after held holds (outcomes.NotCounts number) =
    StopsAtLine before after number × (holds ≡ held)
HasMerged can_read can_write format before after held holds (outcomes.Run (Err Input)) =
    (can_read ⊎ IsEndless before after) × (holds ≡ held)
HasMerged can_read can_write format before after held holds (outcomes.Run (Err Output)) = can_write
HasMerged can_read can_write format before after held holds outcomes.NoMemory = holds ≡ held
HasMerged can_read can_write format before after held holds outcome = ⊥

-- the summaries of the rows of two texts under one heading are merged into that of all rows
abbrev pub CountsAddUp : Type 0
CountsAddUp =
    (joint : Bool) (format : StatisticsFormat) (heading : List ℕ) (rows others : List (List ℕ))
    (a b text first second merged : List ℕ) → lines_of a ≡ heading ∷ rows → lines_of b ≡ heading ∷ others
    → lines_of text ≡ heading ∷ rows ++ others → IsStatistics joint Text a first → IsStatistics joint Text b second
    → IsMerged format (first ++ second) merged → IsStatistics joint format text merged
