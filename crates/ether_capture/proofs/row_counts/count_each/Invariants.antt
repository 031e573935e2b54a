use Rattle.std.proofs.Common.{length}
use Rattle.std.specs.Option.{option_map}
use Rattle.ether_capture.specs.CountTable.{count_at}
use Rattle.ether_capture.specs.RowFields.{fields_if}
use Rattle.ether_capture.proofs.CountRowLemmas.{CountsOn}
use Rattle.ether_capture.proofs.row_counts.count_each.Given as goal

abbrev pub invariant-loop-columns : goal.invariant-loop-columns
invariant-loop-columns l =
    CountsOn l.heading l.texts l.count (count_at l.fn.counts) (option_map (λ s. s.now) l.columns)
    (option_map (λ s. s.now) l.fields) (count_at l.counts)

abbrev pub decreases-loop-columns : goal.decreases-loop-columns
decreases-loop-columns l = length (fields_if (option_map (λ s. s.now) l.fields))
