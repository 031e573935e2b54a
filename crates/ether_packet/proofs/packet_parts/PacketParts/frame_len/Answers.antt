use Rattle.std.proofs.Common.{arith}
use Rattle.ether_packet.specs.declared.packet_builder.PacketBuilder.{PacketBuilder}
use Rattle.ether_packet.proofs.Frames.{headers_alone, size_is}
use Rattle.ether_packet.proofs.packet_parts.PacketParts.frame_len.Goals as goal

pub returns : goal.returns
returns c =
    let p = c.args.self.now in
    let b : PacketBuilder = record c.builder.result { content = c.without_rest.result } in
    let h = headers_alone p c.builder.result c.without_rest.result c.builder.ensures c.without_rest.ensures.headers in
    let size = size_is p b h c.without_rest.ensures.payload in
    let len = c.size.ensures in
    let one = c.saturating_add.ensures in
    let two = c.saturating_add-2.ensures in
    omega (arith, size, len, one, two)
