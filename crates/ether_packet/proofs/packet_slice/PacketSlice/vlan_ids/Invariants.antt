use Rattle.ether_packet.specs.Views.{exts_of}
use Rattle.ether_packet.proofs.Getting.{Identified}
use Rattle.ether_packet.proofs.packet_slice.PacketSlice.vlan_ids.Given as goal

abbrev pub invariant-loop-index : goal.invariant-loop-index
invariant-loop-index l = Identified (exts_of l.self.read.units) l.index l.ids.items
