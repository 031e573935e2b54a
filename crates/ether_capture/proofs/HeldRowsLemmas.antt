-- What is kept of rows.
use Rattle.std.proofs.Common.{◌≡◌, ℕ, List, [], ◌++◌, Bool, true, false, Option, Some, None, refl, sym, subst}
use Rattle.std.specs.Io.KnownBytes.{Appends}
use Rattle.std.specs.List.{flat_map}
use Rattle.ether_capture.specs.CountTable.{count_at}
use Rattle.ether_capture.specs.RowFields.{lines_counts, lines_of}
use Rattle.ether_capture.specs.Statistics.{AreRows, Shows, StatisticsRow, statistics_line}
use Rattle.ether_capture.specs.declared.statistics_format.StatisticsFormat.{StatisticsFormat}
use Rattle.ether_capture.specs.Journal.{known_if}
use Rattle.ether_capture.specs.HeldRows.{HoldsRows}
use Rattle.ether_capture.specs.Tabulating.{Tabulates}
use Rattle.ether_capture.specs.declared.rows.Rows.{Rows}

pub kept_at_first : (joint is_known : Bool) (rows : Rows) → Tabulates joint [] rows
    → HoldsRows joint is_known false (known_if is_known) rows
kept_at_first joint false rows none = tt
kept_at_first joint true rows none = none

pub kept_after : (joint is_known failed : Bool) (held holds : Option (List ℕ)) (bytes : List ℕ) (old new : Rows)
    → failed ≡ false
    → HoldsRows joint is_known failed held old → Appends held holds bytes
    → ((text : List ℕ) → Tabulates joint text old → Tabulates joint (text ++ bytes) new)
    → HoldsRows joint is_known false holds new
kept_after joint false failed held holds bytes old new going kept appends takes = tt
kept_after joint true true held holds bytes old new going kept appends takes = absurd cc
kept_after joint true false None holds bytes old new going kept appends takes = absurd kept
kept_after joint true false (Some text) None bytes old new going kept appends takes = absurd appends
kept_after joint true false (Some text) (Some more) bytes old new going kept appends takes =
    subst (λ t. Tabulates joint t new) (sym appends) (takes text kept)

-- what is written of them
pub shown : (joint is_known failed : Bool) (holds : Option (List ℕ)) (rows counted : Rows) (format : StatisticsFormat)
    (held out : Option (List ℕ)) (lines : List StatisticsRow)
    → HoldsRows joint is_known failed holds rows → failed ≡ false
    → ((text : List ℕ) → Tabulates joint text rows → (q : List ℕ)
    → count_at counted.counts q ≡ lines_counts joint (lines_of text) q)
    → AreRows (count_at counted.counts) lines → Appends held out (flat_map (statistics_line format) lines)
    → Shows is_known joint holds format held out
shown joint false failed holds rows counted format held out lines kept going total are appends = tt
shown joint true true holds rows counted format held out lines kept going total are appends = absurd cc
shown joint true false None rows counted format held out lines kept going total are appends = absurd kept
shown joint true false (Some text) rows counted format held out lines kept going total are appends = (
  flat_map (statistics_line format) lines,
  record { rows = lines; are_rows = subst (λ t. AreRows t lines) (λ i q. total text kept q i) are; is_text = refl },
  appends,
)
