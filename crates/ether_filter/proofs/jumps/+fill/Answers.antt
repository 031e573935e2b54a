use Rattle.std.proofs.Common.{arith, take, sym, ◌∙◌, ap}
use Rattle.ether_filter.proofs.JumpsLemmas.{filled_nothing, filled_test, filled_not, filled_join}
use Rattle.ether_filter.proofs.jumps.+fill.Goals as goal

pub returns-then-end-eq0-clause-filled : goal.returns-then-end-eq0-clause-filled
returns-then-end-eq0-clause-filled t c x front all =
    absurd (filled_nothing x front (ap (λ i. take i c.args.nodes.now) (sym c.if-end-eq0.true) ∙ all))

pub returns-in-Test-clause-filled : goal.returns-in-Test-clause-filled
returns-in-Test-clause-filled t c x front all =
    filled_test x c.args.nodes.now front c.args.jumps.now c.args.end _ c.in-Test.field-0 c.args.jump
    (omega (arith, c.if-end-eq0.false)) c.requires.nodes (omega (arith, c.requires.nodes, c.requires.room)) c.in-Test.is
    all

pub returns-in-Not-clause-filled : goal.returns-in-Not-clause-filled
returns-in-Not-clause-filled t c x front all =
    filled_not x c.args.nodes.now front c.args.jumps.now c.fill.new.jumps c.args.end _ c.args.jump c.fill.result
    (omega (arith, c.if-end-eq0.false)) c.requires.nodes c.in-Not.is all
    (rw c.negated.ensures at c.fill.ensures.filled)

pub returns-in-Join-clause-filled : goal.returns-in-Join-clause-filled
returns-in-Join-clause-filled t c x front all =
    filled_join x c.args.nodes.now front c.args.jumps.now c.fill-middle.new.jumps c.fill-in-Join.new.jumps c.args.end _
    c.in-Join.operator c.args.jump c.fill-middle.result c.fill-in-Join.result (omega (arith, c.if-end-eq0.false))
    c.requires.nodes c.fill-middle.ensures.begin c.in-Join.is all c.fill-middle.ensures.filled
    (rw c.before-in-Join.ensures at c.fill-in-Join.ensures.filled)
