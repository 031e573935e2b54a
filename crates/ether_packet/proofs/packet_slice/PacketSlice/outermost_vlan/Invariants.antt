use Rattle.ether_packet.specs.Views.{exts_of}
use Rattle.ether_packet.proofs.Getting.{Untagged}
use Rattle.ether_packet.proofs.packet_slice.PacketSlice.outermost_vlan.Given as goal

abbrev pub invariant-loop-index : goal.invariant-loop-index
invariant-loop-index l = Untagged (exts_of l.self.read.units) l.index
