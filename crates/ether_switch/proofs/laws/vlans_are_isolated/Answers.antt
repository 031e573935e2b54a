use Rattle.ether_switch.proofs.Joined.{vlans_are_isolated}
use Rattle.ether_switch.proofs.laws.vlans_are_isolated.Goals as goal

pub returns : goal.returns
returns c = vlans_are_isolated
