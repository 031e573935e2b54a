use Rattle.std.proofs.Common.{◌∙◌, sym, arith}
use Rattle.ether_filter.proofs.ByteLemmas.{place_later, place_never}
use Rattle.ether_filter.proofs.byte_text.place_of.Goals as goal

pub loop-at-preserved : goal.loop-at-preserved
loop-at-preserved c = (
  omega (arith, c.loop-at-test.true),
  c.loop-at.invariant.1
      ∙ place_later c.args.byte c.args.text.now c.loop-at.at c.loop-at-test.true c.if-text-at.false,
)

pub returns-clause-place : goal.returns-clause-place
returns-clause-place c =
    sym (c.loop-at.invariant.1
    ∙ place_never c.args.byte c.args.text.now c.loop-at.at (omega (arith, c.loop-at-test.false)))
