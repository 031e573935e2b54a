use Rattle.ether_packet.proofs.Unchanged.{Laid}
use Rattle.ether_packet.proofs.packet_builder.PacketBuilder.write_parts.Given as goal

abbrev pub invariant-loop-ext : goal.invariant-loop-ext
invariant-loop-ext l = Laid l.fn.self l.fn.target l.target l.ext-index l.at
