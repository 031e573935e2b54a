use Rattle.std.proofs.Common.{rules}
use Rattle.ether_packet.proofs.Getting.{no_ids}
use Rattle.ether_packet.proofs.VlanIds.{is_outermost}
use Rattle.ether_packet.proofs.packet_slice.PacketSlice.outermost_vlan.Goals as goal

pub returns-in-Some : goal.returns-in-Some
returns-in-Some c = search (rules, is_outermost)

pub returns : goal.returns
returns c = search (rules, no_ids)
