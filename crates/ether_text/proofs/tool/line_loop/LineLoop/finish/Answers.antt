use Rattle.std.proofs.Common.{rules, sym, ◌∙◌}
use Rattle.ether_text.proofs.tool.LineLoopLemmas.{Finishes-nothing, Finishes-line, end_fault}
use Rattle.ether_text.proofs.tool.line_loop.LineLoop.finish.Goals as goal

pub returns-else-not-is_empty-clause-ok : goal.returns-else-not-is_empty-clause-ok
returns-else-not-is_empty-clause-ok g c =
    Finishes-nothing _ _ _ _ (λ line kept. sym (c.is_empty.ensures line kept) ∙ c.if-not-is_empty.false)

pub returns-in_err-judge-clause-bad : goal.returns-in_err-judge-clause-bad
returns-in_err-judge-clause-bad g c =
    let h =
    end_fault c.args.command g.W.Sink.contents c.in_err-judge.field-0.0 c.args.self c.args.out.now c.judge.new.out
    (λ line kept. sym (c.is_empty.ensures line kept) ∙ c.if-not-is_empty.true) c.in_err-judge.ensures.bad in
    search (rules, h)

pub returns-in_ok-judge-clause-ok : goal.returns-in_ok-judge-clause-ok
returns-in_ok-judge-clause-ok g c =
    Finishes-line _ _ _ _ _ _ (λ line kept. sym (c.is_empty.ensures line kept) ∙ c.if-not-is_empty.true)
    c.in_ok-judge.ensures.ok
