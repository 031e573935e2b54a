use Rattle.ether_filter.proofs.Prospects.{ethernet2_is_fixed}
use Rattle.ether_filter.proofs.prospect.of_ethernet2.Goals as goal

pub returns-clause-prospect : goal.returns-clause-prospect
returns-clause-prospect c = c.of_fixed.ensures.prospect _ ethernet2_is_fixed
