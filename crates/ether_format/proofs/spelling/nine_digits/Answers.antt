use Rattle.ether_output.specs.Decimals.{eight_digits}
use Rattle.ether_format.specs.Spelling.{nine_digits}
use Rattle.ether_format.proofs.spelling.nine_digits.Goals as goal

pub returns : goal.returns
unfolding nine_digits eight_digits
returns c = rw (c.eight_digits-d.ensures, c.from.ensures)
