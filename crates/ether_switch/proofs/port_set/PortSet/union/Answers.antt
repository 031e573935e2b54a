use Rattle.ether_switch.proofs.Words.{has_either}
use Rattle.ether_switch.proofs.port_set.PortSet.union.Goals as goal

pub returns : goal.returns
returns c v within = has_either c.args.self.now.words c.args.other.now.words v within
