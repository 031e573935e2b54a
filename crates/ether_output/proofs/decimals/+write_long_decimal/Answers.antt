use Rattle.std.proofs.Common.{arith}
use Rattle.ether_output.proofs.DecimalLemmas.{myriads}
use Rattle.ether_output.proofs.OutputBufferLemmas.{Takes-then, Takes-same}
use Rattle.ether_output.proofs.decimals.+write_long_decimal.Goals as goal

pub returns-then-number-lt100000000 : goal.returns-then-number-lt100000000
returns-then-number-lt100000000 g t c =
    let last = Takes-same c.four_digits.ensures c.append_array.ensures in
    Takes-same (myriads c.args.number c.if-number-lt10000.false (omega arith))
    (Takes-then c.write_short_decimal-then-number-lt100000000.ensures last)

pub returns-else-number-lt100000000 : goal.returns-else-number-lt100000000
returns-else-number-lt100000000 g t c =
    let digits = c.four_digits-else-number-lt100000000.ensures in
    let last = Takes-same digits c.append_array-else-number-lt100000000.ensures in
    Takes-same (myriads c.args.number c.if-number-lt10000.false (omega arith))
    (Takes-then c.write_long_decimal.ensures last)
