use Rattle.ether_switch.proofs.Fair.{forgotten_are_not_found}
use Rattle.ether_switch.proofs.laws.forgotten_are_not_found.Goals as goal

pub returns : goal.returns
returns c = forgotten_are_not_found
