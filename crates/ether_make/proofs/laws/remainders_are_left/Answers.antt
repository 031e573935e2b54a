use Rattle.ether_make.proofs.DivisionLemmas.{remainders}
use Rattle.ether_make.proofs.laws.remainders_are_left.Goals as goal

pub returns : goal.returns
returns c = remainders
