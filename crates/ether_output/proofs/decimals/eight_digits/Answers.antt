use Rattle.ether_output.proofs.DecimalLemmas.{of_eight}
use Rattle.ether_output.proofs.decimals.eight_digits.Goals as goal

pub returns : goal.returns
returns c = rw (c.four_digits-high.ensures, c.four_digits-low.ensures) (of_eight c.args.number)
