use Rattle.std.proofs.Common.{◌+◌}
use Rattle.etherparse.specs.Link.{link_header_len}
use Rattle.ether_packet.specs.Builder.{content_len}
use Rattle.ether_packet.proofs.Chains.{Counted}
use Rattle.ether_packet.proofs.packet_builder.PacketBuilder.size.Given as goal

abbrev pub invariant-loop-ext : goal.invariant-loop-ext
invariant-loop-ext l =
    Counted l.ext-items (link_header_len l.fn.self.link + content_len l.fn.self.content) l.ext-index l.len
