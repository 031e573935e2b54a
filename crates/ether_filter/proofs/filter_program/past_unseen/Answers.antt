use Rattle.std.proofs.Common.{◌∙◌, sym, arith}
use Rattle.ether_filter.proofs.PastTags.{past_unseen as unseen_passed}
use Rattle.ether_filter.proofs.filter_program.past_unseen.Goals as goal

pub loop-at-preserved : goal.loop-at-preserved
loop-at-preserved c = (
  omega (arith, c.loop-at.invariant.0, c.if-next-at.false),
  λ x p t end fails few r. (unseen_passed c.args.instructions.now x p t c.args.seen.now c.args.ids.now c.loop-at.at
      c.after-next.result end c.loop-at-test.true (sym c.asks_unseen_id.ensures ∙ c.if-asks_unseen_id.true)
      c.after-next.ensures fails few (c.loop-at.invariant.1 x p t end fails few r)).1,
)
