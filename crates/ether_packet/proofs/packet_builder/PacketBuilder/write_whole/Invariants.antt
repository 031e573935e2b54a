use Rattle.ether_packet.proofs.Filling.{Filled, later}
use Rattle.ether_packet.proofs.packet_builder.PacketBuilder.write_whole.Given as goal

abbrev pub invariant-loop-i : goal.invariant-loop-i
invariant-loop-i l =
    Filled l.fn.self l.fn.target l.target (later l.fn.self l.i) l.front.at l.front.ether_type.0 l.front.vlan_type.0
