use Rattle.std.proofs.Common.{rules}
use Rattle.ether_packet.proofs.Snapping.{least_snap}
use Rattle.ether_packet.proofs.snap_len.min_snap_len.Goals as goal

pub returns-clause-least : goal.returns-clause-least
returns-clause-least c no_fcs hs e walk = search (rules, least_snap)
