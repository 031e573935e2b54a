use Rattle.std.proofs.Common.{◌≡◌, ◌≤◌, ◌-◌, ℕ, List, length, drop, Option}
use Rattle.ether_output.specs.OutputBuffer.{Marks}
use Rattle.ether_stream.specs.Progress.{Reached}
use Rattle.ether_stream.specs.Task.{task_view}
use Rattle.ether_stream.proofs.progress.Progress.take_units.Given as goal

abbrev pub invariant-loop-self : goal.invariant-loop-self
invariant-loop-self g l =
    record {
      same_writer : l.out.writer.ghost_name ≡ l.fn.out.writer.ghost_name;
      marks : Marks g.W.Sink.can_fail l.fn.out l.out;
      within : l.at ≤ length l.fn.bytes;
      reached : (held : Option (List ℕ)) (input : List ℕ)
          → Reached (task_view l.fn.task) g.W.Sink.contents held input l.fn.bytes l.fn.self l.fn.out
          → Reached (task_view l.fn.task) g.W.Sink.contents held input (drop l.at l.fn.bytes) l.self l.out;
    }

abbrev pub decreases-loop-self : goal.decreases-loop-self
decreases-loop-self g l = length l.fn.bytes - l.at
