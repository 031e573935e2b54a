use Rattle.std.proofs.Common.{◌≡◌, ℕ, List}
use Rattle.std.specs.Io.KnownBytes.{Consumes}
use Rattle.ether_text.specs.InputReader.{ReadsOn}
use Rattle.ether_output.specs.OutputBuffer.{contents_of, Marks}
use Rattle.ether_stream.specs.InputBuffer.{items}
use Rattle.ether_stream.specs.Progress.{Reached}
use Rattle.ether_stream.specs.Task.{task_view}
use Rattle.ether_stream.proofs.run.read_capture.Given as goal

abbrev pub invariant-loop-edits : goal.invariant-loop-edits
invariant-loop-edits g l =
    (taken : List ℕ) × record {
      same_reader : l.input.inner.ghost_name ≡ l.fn.input.inner.ghost_name;
      same_writer : l.out.writer.ghost_name ≡ l.fn.out.writer.ghost_name;
      read : Consumes (g.R.Source.remaining l.fn.input.inner.now) (g.R.Source.remaining l.input.inner.now) taken;
      on : ReadsOn g.R.Source.remaining l.fn.input l.input;
      marks : Marks g.W.Sink.can_fail l.fn.out l.out;
      reached : Reached (task_view l.fn.task) g.W.Sink.contents (contents_of g.W.Sink.contents l.fn.out) taken
          (items l.buffer)
          l.progress l.out;
    }

abbrev pub decreases-loop-edits : goal.decreases-loop-edits
decreases-loop-edits g l = l.input.reads_left
