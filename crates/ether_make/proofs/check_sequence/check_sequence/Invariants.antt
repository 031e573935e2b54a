use Rattle.std.proofs.Common.{ℕ, length}
use Rattle.ether_make.specs.CheckSteps.{TakesIn}
use Rattle.ether_make.proofs.check_sequence.check_sequence.Given as goal

abbrev pub invariant-loop-rest : goal.invariant-loop-rest
invariant-loop-rest l = (after : ℕ) → TakesIn l.register l.rest after → TakesIn 0xFFFFFFFF l.bytes after

abbrev pub decreases-loop-rest : goal.decreases-loop-rest
decreases-loop-rest l = length l.rest
