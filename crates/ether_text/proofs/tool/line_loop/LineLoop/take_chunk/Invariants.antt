use Rattle.std.proofs.Common.{◌≡◌, ℕ, List, ◌++◌, length}
use Rattle.ether_output.specs.OutputBuffer.{Marks}
use Rattle.ether_text.specs.Tool.LineLoop.{Advances}
use Rattle.ether_text.proofs.tool.line_loop.LineLoop.take_chunk.Given as goal

abbrev pub invariant-loop-piece : goal.invariant-loop-piece
invariant-loop-piece g l =
    (front : List ℕ) × (l.out.writer.ghost_name ≡ l.fn.out.writer.ghost_name) × (l.chunk ≡ front ++ l.rest)
    × Advances l.command g.W.Sink.contents l.fn.self l.fn.out front l.self l.out
    × Marks g.W.Sink.can_fail l.fn.out l.out

abbrev pub decreases-loop-piece : goal.decreases-loop-piece
decreases-loop-piece g l = length l.rest
