use Rattle.std.proofs.Common.{◌≡◌, ℕ, List}
use Rattle.std.specs.Io.KnownBytes.{Consumes}
use Rattle.ether_text.specs.InputReader.{ReadsOn}
use Rattle.ether_output.specs.OutputBuffer.{contents_of, Marks}
use Rattle.ether_text.specs.Tool.LineLoop.{Reached}
use Rattle.ether_text.proofs.tool.run.read_lines.Given as goal

abbrev pub invariant-loop-input : goal.invariant-loop-input
invariant-loop-input g l =
    (taken : List ℕ) × record {
      same_reader : l.input.inner.ghost_name ≡ l.fn.input.inner.ghost_name;
      same_writer : l.out.writer.ghost_name ≡ l.fn.out.writer.ghost_name;
      read : Consumes (g.R.Source.remaining l.fn.input.inner.now) (g.R.Source.remaining l.input.inner.now) taken;
      on : ReadsOn g.R.Source.remaining l.fn.input l.input;
      marks : Marks g.W.Sink.can_fail l.fn.out l.out;
      reached : Reached l.command g.W.Sink.contents (contents_of g.W.Sink.contents l.fn.out) taken l.lines l.out;
    }

abbrev pub decreases-loop-input : goal.decreases-loop-input
decreases-loop-input g l = l.input.reads_left
