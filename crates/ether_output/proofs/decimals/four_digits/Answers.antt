use Rattle.ether_output.proofs.decimals.four_digits.Goals as goal

pub returns : goal.returns
returns c = rw (c.digit_pair-high.ensures, c.digit_pair-low.ensures)
