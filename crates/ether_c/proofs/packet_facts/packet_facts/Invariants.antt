use Rattle.ether_c.proofs.PacketGiven.{FactsSoFar}
use Rattle.ether_c.proofs.packet_facts.packet_facts.Given as goal

abbrev pub invariant-loop-unit : goal.invariant-loop-unit
invariant-loop-unit l = FactsSoFar l.fn.units l.unit-index l.vlan_ids l.vlan_count l.min_snap_len
