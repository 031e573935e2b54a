use Rattle.ether_packet.specs.Views.{exts_of}
use Rattle.ether_packet.proofs.Getting.{Unsealed}
use Rattle.ether_packet.proofs.packet_slice.PacketSlice.macsec.Given as goal

abbrev pub invariant-loop-index : goal.invariant-loop-index
invariant-loop-index l = Unsealed (exts_of l.self.read.units) l.index
