use Rattle.ether_packet.specs.Views.{exts_of}
use Rattle.ether_packet.proofs.Getting.{Viewed}
use Rattle.ether_packet.proofs.packet_slice.PacketSlice.link_exts.Given as goal

abbrev pub invariant-loop-index : goal.invariant-loop-index
invariant-loop-index l = Viewed (exts_of l.self.read.units) l.index l.exts.items
