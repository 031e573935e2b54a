use Rattle.ether_switch.proofs.Following.{last_sightings_are_found}
use Rattle.ether_switch.proofs.laws.last_sightings_are_found.Goals as goal

pub returns : goal.returns
returns c = last_sightings_are_found
