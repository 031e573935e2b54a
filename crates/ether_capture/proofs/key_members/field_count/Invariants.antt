use Rattle.std.proofs.Common.{◌≡◌, ◌+◌, length}
use Rattle.std.specs.Option.{option_map}
use Rattle.ether_capture.specs.RowFields.{fields_if, row_fields}
use Rattle.ether_capture.proofs.key_members.field_count.Given as goal

abbrev pub invariant-loop-rest : goal.invariant-loop-rest
invariant-loop-rest l = length (row_fields l.text) ≡ l.count + length (fields_if (option_map (λ s. s.now) l.rest))

abbrev pub decreases-loop-rest : goal.decreases-loop-rest
decreases-loop-rest l = length (fields_if (option_map (λ s. s.now) l.rest))
