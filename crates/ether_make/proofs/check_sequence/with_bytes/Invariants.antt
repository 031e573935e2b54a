use Rattle.std.proofs.Common.{ℕ, drop}
use Rattle.ether_make.specs.CheckSteps.{TakesIn}
use Rattle.ether_make.proofs.check_sequence.with_bytes.Given as goal

abbrev pub invariant-loop-byte : goal.invariant-loop-byte
invariant-loop-byte l =
    (after : ℕ) → TakesIn l.after (drop l.byte-index l.bytes) after → TakesIn l.fn.register l.bytes after
