use Rattle.std.proofs.Common.{rules}
use Rattle.ether_packet.proofs.Reaching.{packet_len, reach_with_arp}
use Rattle.ether_packet.proofs.packet_units.PacketUnits.min_snap_len.Goals as goal

pub returns-in-Some : goal.returns-in-Some
returns-in-Some c = search (rules, packet_len, reach_with_arp)
