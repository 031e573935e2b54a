use Rattle.ether_switch.proofs.Words.{has_both}
use Rattle.ether_switch.proofs.port_set.PortSet.intersection.Goals as goal

pub returns : goal.returns
returns c v within = has_both c.args.self.now.words c.args.other.now.words v within
