use Rattle.std.proofs.Common.{arith}
use Rattle.ether_capture.proofs.FieldLemmas.{decimal_turn}
use Rattle.ether_capture.proofs.rows.decimal_value.Goals as goal

pub loop-digit-preserved : goal.loop-digit-preserved
loop-digit-preserved c =
    let turn = decimal_turn c.args.digits.now c.loop-digit.digit-index c.loop-digit.value c.loop-digit-test.true
    c.loop-digit.invariant in
    let mul = c.saturating_mul.ensures in
    let sub = c.saturating_sub.ensures in
    let from = c.from.ensures in
    let add = c.saturating_add-value.ensures in
    omega (arith, turn, mul, sub, from, add)
