use Rattle.ether_format.specs.Spelling.{nine_digits}
use Rattle.ether_format.proofs.spelling.fraction.Goals as goal

pub returns : goal.returns
unfolding nine_digits
returns c = rw c.nine_digits-d.ensures
