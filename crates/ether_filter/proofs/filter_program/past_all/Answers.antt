use Rattle.std.proofs.Common.{◌∙◌, sym, arith}
use Rattle.ether_filter.proofs.PastTags.{past_tag}
use Rattle.ether_filter.proofs.filter_program.past_all.Goals as goal

pub loop-at-preserved : goal.loop-at-preserved
loop-at-preserved c = (
  omega (arith, c.loop-at.invariant.0, c.if-next-at.false),
  λ x p t end fails few r. (past_tag c.args.instructions.now x p t c.loop-at.at c.from-next.result end
      c.loop-at-test.true (sym c.asks_tags.ensures ∙ c.if-asks_tags.true) c.from-next.ensures fails few
      (c.loop-at.invariant.1 x p t end fails few r)).1,
)
