use Rattle.std.proofs.Common.{◌≡◌, ℕ, List, ◌++◌, length}
use Rattle.ether_output.specs.OutputBuffer.{Grows}
use Rattle.ether_output.proofs.output_buffer.OutputBuffer.append_slowly.Given as goal

abbrev pub invariant-loop-rest : goal.invariant-loop-rest
invariant-loop-rest g l =
    (front : List ℕ) × (l.bytes ≡ front ++ l.rest) × Grows g.W.Sink.contents g.W.Sink.can_fail l.fn.self front l.self

abbrev pub decreases-loop-rest : goal.decreases-loop-rest
decreases-loop-rest g l = length l.rest
