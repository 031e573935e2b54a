use Rattle.std.proofs.Common.{Some, ap, arith}
use Rattle.ether_stream.proofs.RunLemmas.{slice_answered}
use Rattle.ether_stream.proofs.run.run_slice.Goals as goal

pub returns-clause-run : goal.returns-clause-run
returns-clause-run g c =
    slice_answered _ g.W.Sink.can_fail c.args.capture.now _ _ _ _ c.run.result (ap Some c.new-source.ensures)
    (omega arith) c.run.ensures.run c.run.ensures.failed
