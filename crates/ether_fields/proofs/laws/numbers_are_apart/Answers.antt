use Rattle.ether_fields.proofs.NumberLemmas.{numbers_are_apart}
use Rattle.ether_fields.proofs.laws.numbers_are_apart.Goals as goal

pub returns : goal.returns
returns c = numbers_are_apart
