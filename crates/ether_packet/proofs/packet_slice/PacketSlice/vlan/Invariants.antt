use Rattle.ether_packet.specs.Views.{exts_of}
use Rattle.ether_packet.proofs.Getting.{Tagged}
use Rattle.ether_packet.proofs.packet_slice.PacketSlice.vlan.Given as goal

abbrev pub invariant-loop-index : goal.invariant-loop-index
invariant-loop-index l = Tagged (exts_of l.self.read.units) l.index l.first
