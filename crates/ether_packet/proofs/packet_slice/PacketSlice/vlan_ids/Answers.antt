use Rattle.std.proofs.Common.{length, ap, arith, rules}
use Rattle.ether_packet.proofs.Getting.{identified_all}
use Rattle.ether_packet.proofs.packet_slice.PacketSlice.vlan_ids.Goals as goal

pub loop-index-init : goal.loop-index-init
loop-index-init c = record { found = c.new-ids.ensures; few = let none = ap length c.new-ids.ensures in omega arith }

pub returns : goal.returns
returns c = search (rules, identified_all)
