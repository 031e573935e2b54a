use Rattle.std.proofs.Common.{rules}
use Rattle.ether_packet.proofs.packet_slice.PacketSlice.is_complete.Goals as goal

pub returns-clause-accepted : goal.returns-clause-accepted
returns-clause-accepted c = search rules
