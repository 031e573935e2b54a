use Rattle.std.proofs.Common.{rules}
use Rattle.ether_packet.proofs.Getting.{viewed_next, viewed_inside}
use Rattle.ether_packet.proofs.packet_slice.PacketSlice.link_exts.Goals as goal
use Rattle.ether_packet.proofs.packet_slice.PacketSlice.link_exts.Goals.{in-Some, in_default}

pub loop-index-preserved : goal.loop-index-preserved
loop-index-preserved c = search (rules, in-Some, viewed_next, in_default, viewed_inside)
