use Rattle.ether_switch.proofs.Joined.{vlans_are_isolated_over_links}
use Rattle.ether_switch.proofs.laws.vlans_are_isolated_over_links.Goals as goal

pub returns : goal.returns
returns c = vlans_are_isolated_over_links
