use Rattle.std.proofs.Common.{◌∙◌, sym, arith}
use Rattle.ether_filter.proofs.PastTags.{past_other}
use Rattle.ether_filter.proofs.filter_program.past_others.Goals as goal

pub loop-at-preserved : goal.loop-at-preserved
loop-at-preserved c = (
  omega (arith, c.loop-at.invariant.0, c.if-next-at.false),
  λ x p t end fails few r. (past_other c.args.instructions.now x p t c.args.id c.loop-at.at c.after-next.result end
      c.loop-at-test.true (sym c.asks_other_id.ensures ∙ c.if-asks_other_id.true) c.after-next.ensures fails few
      (c.loop-at.invariant.1 x p t end fails few r)).1,
)
