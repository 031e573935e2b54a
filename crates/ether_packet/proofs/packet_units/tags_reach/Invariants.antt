use Rattle.ether_packet.proofs.Reaching.{Reaches}
use Rattle.ether_packet.proofs.packet_units.tags_reach.Given as goal

abbrev pub invariant-loop-index : goal.invariant-loop-index
invariant-loop-index l = Reaches l.fn.link l.fn.exts l.index l.at l.end
