use Rattle.ether_switch.proofs.Apart.{vlans_do_not_interfere}
use Rattle.ether_switch.proofs.laws.vlans_do_not_interfere.Goals as goal

pub returns : goal.returns
returns c = vlans_do_not_interfere
