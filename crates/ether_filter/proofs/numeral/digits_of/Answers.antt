use Rattle.ether_filter.proofs.NumeralLemmas.{reads_more}
use Rattle.ether_filter.proofs.numeral.digits_of.Goals as goal

pub loop-digit-preserved : goal.loop-digit-preserved
loop-digit-preserved c =
    let value = c.in_ok-value.ensures.value in
    reads_more c.args.radix c.args.digits.now c.loop-digit.digit-index c.loop-digit.number c.in_ok-value.value
    c.appended-number.result c.requires.least c.loop-digit-test.true c.loop-digit.invariant
    (rw c.from.ensures at value.0) (rw c.from.ensures at value.1) c.appended-number.ensures
