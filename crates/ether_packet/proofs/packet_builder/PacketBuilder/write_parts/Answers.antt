use Rattle.std.proofs.Common.{◌+◌, length, arith, rules}
use Rattle.ether_packet.proofs.Chains.{link_len}
use Rattle.ether_packet.proofs.Filling.{room_for_link}
use Rattle.ether_packet.proofs.Unchanged.{laid_link, room_next, laid_next, room_content, laid_all}
use Rattle.ether_packet.proofs.packet_builder.PacketBuilder.write_parts.Goals as goal

pub write_link_header-requires : goal.write_link_header-requires
write_link_header-requires c = room_for_link c.args.self.now (length c.args.target.now) c.requires

pub loop-ext-init : goal.loop-ext-init
loop-ext-init c = search (rules, laid_link, link_len)

pub write_ext-requires : goal.write_ext-requires
write_ext-requires c =
    let l = c.loop-ext in
    let room = c.requires in
    let same = l.auto.target in
    let first = c.write_link_header.auto.target in
    let next =
    room_next c.args.self.now c.args.target.now l.target l.ext-index l.at c.ext-item.result c.loop-ext-test.true
    c.ext-item.is l.invariant in
    omega (arith, next, room, same, first)

pub overflow_add-at : goal.overflow_add-at
overflow_add-at c =
    let l = c.loop-ext in
    let room = c.requires in
    let len = c.header_len-at-in-loop-ext.ensures.value in
    let next =
    room_next c.args.self.now c.args.target.now l.target l.ext-index l.at c.ext-item.result c.loop-ext-test.true
    c.ext-item.is l.invariant in
    let fits = l.auto.at-fits in
    omega (arith, next, room, len, fits)

pub loop-ext-preserved : goal.loop-ext-preserved
loop-ext-preserved c =
    let l = c.loop-ext in
    let x = c.ext-item.result in
    laid_next c.args.self.now c.args.target.now l.target c.write_ext.new.target l.ext-index l.at
    (l.at + c.header_len-at-in-loop-ext.result) x c.loop-ext-test.true c.ext-item.is l.invariant
    c.write_ext.ensures.bytes c.write_ext.ensures.fits
    (let len = c.header_len-at-in-loop-ext.ensures.value in omega (arith, len))

pub write_content_at-requires : goal.write_content_at-requires
write_content_at-requires c =
    let l = c.loop-ext in
    let over = c.loop-ext-test.false in
    let room = c.requires in
    let same = l.auto.target in
    let first = c.write_link_header.auto.target in
    let end =
    room_content c.args.self.now c.args.target.now l.target l.ext-index l.at (omega (arith, over)) l.invariant in
    omega (arith, end, room, same, first)

pub returns-clause-written : goal.returns-clause-written
returns-clause-written c = search (rules, laid_all)
