use Rattle.std.proofs.Common.{◌≤◌, length, set, refl, arith}
use Rattle.ether_c.specs.Rows.{HoldsRow}
use Rattle.ether_c.proofs.EachPut.{put_next_value, put_all}
use Rattle.ether_c.proofs.rows.etherpeel_rows.Goals as goal

pub loop-at-preserved : goal.loop-at-preserved
loop-at-preserved c =
    let room : length c.args.packets.now ≤ length c.args.rows.now = omega (arith, c.if-rows-packets.false) in
    put_next_value HoldsRow c.args.packets.now c.args.rows.now c.loop-at.rows
    (set c.loop-at.rows c.loop-at.at c.of.result) c.loop-at.at c.of.result _ (omega (arith, c.loop-at-test.true)) room
    c.loop-at.invariant c.of.ensures refl

pub returns : goal.returns
returns c =
    put_all HoldsRow c.args.packets.now c.args.rows.now c.loop-at.rows c.loop-at.at
    (omega (arith, c.loop-at-test.false, c.loop-at.auto.at-end)) (omega (arith, c.if-rows-packets.false))
    c.loop-at.invariant
