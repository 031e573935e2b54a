use Rattle.std.proofs.Common.{◌∙◌}
use Rattle.ether_output.proofs.DecimalLemmas.{one_digit, of_two}
use Rattle.ether_output.proofs.OutputBufferLemmas.{Takes-same}
use Rattle.ether_output.proofs.decimals.write_decimal.Goals as goal

pub returns-then-number-lt10 : goal.returns-then-number-lt10
returns-then-number-lt10 g c =
    Takes-same (one_digit c.args.number _ c.if-number-lt10.true c.digit.ensures) c.append_array.ensures

pub returns-then-number-lt100 : goal.returns-then-number-lt100
returns-then-number-lt100 g c =
    let digits = of_two c.args.number c.if-number-lt10.false c.if-number-lt100.true in
    Takes-same (c.digit_pair.ensures ∙ digits) c.append_array-then-number-lt100.ensures
