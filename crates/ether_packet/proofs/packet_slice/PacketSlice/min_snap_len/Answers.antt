use Rattle.ether_packet.proofs.Snapping.{snaps_at}
use Rattle.ether_packet.proofs.packet_slice.PacketSlice.min_snap_len.Goals as goal

pub returns-clause-least : goal.returns-clause-least
returns-clause-least c = snaps_at c.args.self.now c.min_snap_len.result c.min_snap_len.ensures
