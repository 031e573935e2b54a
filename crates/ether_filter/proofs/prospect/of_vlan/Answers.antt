use Rattle.ether_filter.proofs.Prospects.{vlan_is_fixed}
use Rattle.ether_filter.proofs.prospect.of_vlan.Goals as goal

pub returns-clause-prospect : goal.returns-clause-prospect
returns-clause-prospect c = c.of_fixed.ensures.prospect _ vlan_is_fixed
