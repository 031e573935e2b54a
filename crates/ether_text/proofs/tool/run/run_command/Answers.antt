use Rattle.std.proofs.Common.{rules, ap, ◌∙◌, List, ℕ}
use Rattle.std.specs.Io.KnownBytes.{append_known}
use Rattle.ether_output.proofs.KnownBytesLemmas.{append_known_nil}
use Rattle.ether_text.proofs.RunLemmas.{run_fails}
use Rattle.ether_text.specs.Tool.Run.{stream_of}
use Rattle.ether_text.proofs.tool.RunLemmas.{HasRun-same}
use Rattle.ether_text.proofs.tool.run.run_command.Goals as goal

pub returns-clause-run : goal.returns-clause-run
returns-clause-run g c =
    let none =
    ap (λ (l : List ℕ). append_known (g.W.Sink.contents c.new-out.result.writer.now) l)
    c.new-out.ensures.none_waits
    ∙ append_known_nil _ ∙ ap g.W.Sink.contents c.new-out.ensures.contents in
    HasRun-same c.args.command c.answer_input.result _ _ _ _ _ _ _ _
    (ap g.R.Source.remaining c.new-input.ensures.remaining) (search rules) none (search rules)
    c.answer_input.ensures.run

pub returns-clause-failed : goal.returns-clause-failed
returns-clause-failed g c =
    run_fails stream_of g.R.Source.remaining g.R.Source.can_fail g.W.Sink.can_fail c.new-input.result
    c.answer_input.new.input
    c.new-out.result c.answer_input.new.out _ _ (ap g.R.Source.remaining c.new-input.ensures.remaining) (search rules)
    c.new-input.ensures.fresh c.new-input.ensures.reads c.new-out.ensures.fresh c.answer_input.result
    c.answer_input.ensures.failed c.answer_input.ensures.cause c.answer_input.ensures.marks
