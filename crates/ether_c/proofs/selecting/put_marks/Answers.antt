use Rattle.std.proofs.Common.{◌≤◌, length, set, refl, arith}
use Rattle.ether_c.specs.Selection.{IsMark}
use Rattle.ether_c.proofs.EachPut.{put_next_value, put_all}
use Rattle.ether_c.proofs.selecting.put_marks.Goals as goal

pub loop-at-preserved : goal.loop-at-preserved
loop-at-preserved c x program =
    let room : length c.args.packets.now ≤ length c.args.matches.now = omega (arith, c.if-matches-packets.false) in
    put_next_value (IsMark x) c.args.packets.now c.args.matches.now c.loop-at.matches
    (set c.loop-at.matches c.loop-at.at c.mark.result) c.loop-at.at c.mark.result _
    (omega (arith, c.loop-at-test.true)) room (c.loop-at.invariant x program) (c.mark.ensures x program) refl

pub returns : goal.returns
returns c x program =
    put_all (IsMark x) c.args.packets.now c.args.matches.now c.loop-at.matches c.loop-at.at
    (omega (arith, c.loop-at-test.false, c.loop-at.auto.at-end)) (omega (arith, c.if-matches-packets.false))
    (c.loop-at.invariant x program)
