use Rattle.std.proofs.Common.{rules, ◌<◌, ◌/◌, ◌^◌, get_or, arith}
use Rattle.ether_switch.proofs.Words.{has_first}
use Rattle.ether_switch.proofs.port_set.PortSet.difference.Goals as goal

pub returns : goal.returns
returns c v within =
    let fits : get_or c.args.other.now.words (v / 64) 0 < 2 ^ 64 = search (rules, arith) in
    has_first c.args.self.now.words c.args.other.now.words v within fits
