use Rattle.ether_switch.proofs.Fair.{ports_are_fair}
use Rattle.ether_switch.proofs.laws.ports_are_fair.Goals as goal

pub returns : goal.returns
returns c = ports_are_fair
