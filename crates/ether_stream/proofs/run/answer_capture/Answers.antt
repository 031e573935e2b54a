use Rattle.ether_output.specs.OutputBuffer.{contents_of}
use Rattle.ether_stream.specs.Progress.{counts_at}
use Rattle.ether_stream.specs.Task.{task_view}
use Rattle.ether_stream.proofs.RunLemmas.{HasCounted-flushed}
use Rattle.ether_stream.proofs.run.answer_capture.Goals as goal

pub returns-in_ok-flush-clause-run : goal.returns-in_ok-flush-clause-run
returns-in_ok-flush-clause-run g c =
    HasCounted-flushed (task_view c.args.task.now) g.W.Sink.contents (g.R.Source.remaining c.args.input.now.inner.now)
    (g.R.Source.remaining c.read_capture-outcome.new.input.inner.now)
    (contents_of g.W.Sink.contents c.args.out.now) c.read_capture-outcome.new.out c.flush.new.self
    c.read_capture-outcome.result (counts_at c.read_capture-outcome.new.progress) c.in_ok-flush.ensures.ok
    c.read_capture-outcome.ensures.run
