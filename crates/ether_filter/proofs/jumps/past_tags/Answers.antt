use Rattle.std.proofs.Common.{◌-◌, ◌∙◌, arith, refl}
use Rattle.std.proofs.lemmas.List.{length-set}
use Rattle.ether_filter.proofs.PassedTags.{passed_set}
use Rattle.ether_filter.proofs.jumps.past_tags.Goals as goal

pub loop-at-preserved : goal.loop-at-preserved
loop-at-preserved c =
    let ns = c.args.nodes.now in
    let js = c.args.jumps.now in
    let at = c.loop-at.at - 1 in
    let some = c.loop-at-test.true in
    let inside = c.loop-at.invariant.0 in (
      omega (arith, inside),
      length-set c.loop-at.past at c.past_next.result ∙ c.loop-at.invariant.1,
      passed_set ns js c.loop-at.past at c.past_next.result
          (omega (arith, inside, c.requires, some, c.loop-at.invariant.1))
          (c.past_next.ensures js refl (λ i above lt. c.loop-at.invariant.2 i (omega (arith, above, some)) lt))
          (λ i above lt. c.loop-at.invariant.2 i (omega (arith, above, some)) lt),
    )
