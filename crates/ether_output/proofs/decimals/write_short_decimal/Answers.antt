use Rattle.std.proofs.Common.{◌∙◌}
use Rattle.ether_output.proofs.DecimalLemmas.{one_digit, of_two, of_three, of_four}
use Rattle.ether_output.proofs.OutputBufferLemmas.{Takes-same}
use Rattle.ether_output.proofs.decimals.write_short_decimal.Goals as goal

pub returns-then-number-lt10 : goal.returns-then-number-lt10
returns-then-number-lt10 g c =
    Takes-same (one_digit c.args.number _ c.if-number-lt10.true c.digit.ensures) c.append_array.ensures

pub returns-then-number-lt100 : goal.returns-then-number-lt100
returns-then-number-lt100 g c =
    let digits = of_two c.args.number c.if-number-lt10.false c.if-number-lt100.true in
    Takes-same (c.digit_pair.ensures ∙ digits) c.append_array-then-number-lt100.ensures

pub returns-then-number-lt1000 : goal.returns-then-number-lt1000
returns-then-number-lt1000 g c =
    let first = c.digit-then-number-lt1000.ensures in
    let digits = of_three c.args.number _ c.if-number-lt100.false c.if-number-lt1000.true first in
    Takes-same digits (rw c.digit_pair-last.ensures at c.append_array-then-number-lt1000.ensures)

pub returns-else-number-lt1000 : goal.returns-else-number-lt1000
returns-else-number-lt1000 g c =
    let digits = of_four c.args.number c.if-number-lt1000.false c.requires in
    Takes-same (c.four_digits.ensures ∙ digits) c.append_array-else-number-lt1000.ensures
