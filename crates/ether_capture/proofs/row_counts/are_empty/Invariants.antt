use Rattle.std.proofs.Common.{◌≡◌, length}
use Rattle.std.specs.Option.{option_map}
use Rattle.ether_capture.specs.RowFields.{are_empty, fields_if, row_fields}
use Rattle.ether_capture.proofs.row_counts.are_empty.Given as goal

abbrev pub invariant-loop-rest : goal.invariant-loop-rest
invariant-loop-rest l = are_empty (row_fields l.texts) ≡ are_empty (fields_if (option_map (λ s. s.now) l.rest))

abbrev pub decreases-loop-rest : goal.decreases-loop-rest
decreases-loop-rest l = length (fields_if (option_map (λ s. s.now) l.rest))
