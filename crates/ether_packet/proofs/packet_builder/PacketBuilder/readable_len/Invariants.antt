use Rattle.std.proofs.Common.{◌+◌}
use Rattle.etherparse.specs.Link.{link_header_len}
use Rattle.ether_packet.specs.Builder.{content_len}
use Rattle.ether_packet.proofs.Chains.{Counted, ReadTo, followed}
use Rattle.ether_packet.proofs.packet_builder.PacketBuilder.readable_len.Given as goal

abbrev pub invariant-loop-i : goal.invariant-loop-i
invariant-loop-i l =
    Counted l.fn.self.link_exts.now (link_header_len l.fn.self.link + content_len l.fn.self.content) l.i l.len
    × ReadTo l.fn.self.link_exts.now (followed l.fn.self.link_exts.now l.fn.self.content) l.i
