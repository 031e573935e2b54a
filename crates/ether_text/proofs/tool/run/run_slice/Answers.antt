use Rattle.std.proofs.Common.{Some, ap, arith}
use Rattle.ether_text.proofs.tool.RunLemmas.{slice_answered}
use Rattle.ether_text.proofs.tool.run.run_slice.Goals as goal

pub returns-clause-run : goal.returns-clause-run
returns-clause-run g c =
    slice_answered _ g.W.Sink.can_fail c.args.lines.now _ _ _ _ c.run_command.result (ap Some c.new-source.ensures)
    (omega arith) c.run_command.ensures.run c.run_command.ensures.failed
