use Rattle.std.proofs.Common.{◌<◌, ◌/◌, length, arith}
use Rattle.ether_switch.proofs.Words.{has_more}
use Rattle.ether_switch.proofs.port_set.PortSet.insert.Goals as goal

pub returns : goal.returns
returns c v within =
    let words = c.args.self.now.words in
    let lt : c.args.port / 64 < length words = omega arith in
    has_more words c.args.port v lt
