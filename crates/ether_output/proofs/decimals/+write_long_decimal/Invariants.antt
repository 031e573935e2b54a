use Rattle.ether_output.proofs.decimals.+write_long_decimal.Given as goal

abbrev pub decreases-write_long_decimal : goal.decreases-write_long_decimal
decreases-write_long_decimal g l = l.number
