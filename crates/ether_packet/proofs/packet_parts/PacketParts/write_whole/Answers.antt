use Rattle.std.proofs.Common.{arith, rules}
use Rattle.ether_packet.specs.declared.packet_builder.PacketBuilder.{PacketBuilder}
use Rattle.ether_packet.proofs.Frames.{headers_alone, size_is, all_written}
use Rattle.ether_packet.proofs.packet_parts.PacketParts.write_whole.Goals as goal

pub write_parts-requires : goal.write_parts-requires
write_parts-requires c =
    let p = c.args.self.now in
    let b : PacketBuilder = record c.builder.result { content = c.without_rest.result } in
    let h = headers_alone p c.builder.result c.without_rest.result c.builder.ensures c.without_rest.ensures.headers in
    let size = size_is p b h c.without_rest.ensures.payload in
    let room = c.requires in
    omega (arith, size, room)

pub write_at-requires : goal.write_at-requires
write_at-requires c =
    let p = c.args.self.now in
    let b : PacketBuilder = record c.builder.result { content = c.without_rest.result } in
    let h = headers_alone p c.builder.result c.without_rest.result c.builder.ensures c.without_rest.ensures.headers in
    let size = size_is p b h c.without_rest.ensures.payload in
    let room = c.requires in
    let len = c.size-rest_at.ensures in
    let same = c.write_parts.auto.target in
    omega (arith, size, room, len, same)

pub write_at-requires-2 : goal.write_at-requires-2
write_at-requires-2 c =
    let p = c.args.self.now in
    let b : PacketBuilder = record c.builder.result { content = c.without_rest.result } in
    let h = headers_alone p c.builder.result c.without_rest.result c.builder.ensures c.without_rest.ensures.headers in
    let size = size_is p b h c.without_rest.ensures.payload in
    let room = c.requires in
    let len = c.size-rest_at.ensures in
    let same = c.write_parts.auto.target in
    let rest = c.write_at.auto.target in
    omega (arith, size, room, len, same, rest)

pub returns : goal.returns
returns c = search (rules, headers_alone, all_written)
