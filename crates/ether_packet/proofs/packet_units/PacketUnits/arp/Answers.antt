use Rattle.std.proofs.Common.{rules}
use Rattle.ether_packet.proofs.Places.{arp_at, packet_at}
use Rattle.ether_packet.proofs.packet_units.PacketUnits.arp.Goals as goal

pub returns-in-Some : goal.returns-in-Some
returns-in-Some c = search (rules, arp_at, packet_at)

pub returns-in-None : goal.returns-in-None
returns-in-None c = search (rules, arp_at, packet_at)
