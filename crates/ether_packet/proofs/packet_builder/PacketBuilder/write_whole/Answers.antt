use Rattle.std.proofs.Common.{◌≡◌, ℕ, ◌-◌, List, sym, ap, subst, ◌∙◌, arith, rules}
use Rattle.etherparse.specs.LinkExt.{ext_header_view}
use Rattle.etherparse.specs.Header.{Header}
use Rattle.ether_packet.specs.Builder.{content_type, inner_headers, IsWritten}
use Rattle.ether_packet.proofs.Filling.{Filled, later, later_none, later_before, room_for_content, room_for_link, room_before, filled_content, filled_next, filled_all}
use Rattle.ether_packet.proofs.packet_builder.PacketBuilder.write_whole.Goals as goal

pub write_content-front-requires-clause-start : goal.write_content-front-requires-clause-start
write_content-front-requires-clause-start c = search (rules, room_for_content)

pub loop-i-init : goal.loop-i-init
loop-i-init c =
    let p = c.args.self.now in
    let front = c.write_content-front in
    let content = front.ensures in
    subst
    (λ (hs : List Header).
    Filled p c.args.target.now front.new.target hs front.result.at front.result.ether_type.0
    front.result.vlan_type.0)
    (sym (later_none p))
    (filled_content p c.args.target.now front.new.target front.result.at front.result.ether_type.0
    front.result.vlan_type.0 (content.start ∙ c.requires.len) content.bytes content.fits content.ether_type
    content.vlan_type)

pub write_ext_before-front-requires-clause-start : goal.write_ext_before-front-requires-clause-start
write_ext_before-front-requires-clause-start c = search (rules, room_before)

pub loop-i-preserved : goal.loop-i-preserved
loop-i-preserved c =
    let p = c.args.self.now in
    let l = c.loop-i in
    let x = c.index-exts-i.result in
    let front = c.write_ext_before-front in
    let tag = front.ensures in
    let len = c.requires.len in
    let room = c.requires.room in
    subst
    (λ (hs : List Header).
    Filled p c.args.target.now front.new.target hs front.result.at front.result.ether_type.0
    front.result.vlan_type.0)
    (sym (later_before p l.i x c.loop-i-test.true l.auto.i c.index-exts-i.is))
    (filled_next p c.args.target.now l.target front.new.target (ext_header_view x) (later p l.i) l.front.at
    l.front.ether_type.0 l.front.vlan_type.0 front.result.at (c.args.len - l.front.at) front.result.ether_type.0
    front.result.vlan_type.0
    (omega (arith, len, room)) l.invariant tag.start (ap (λ (n : ℕ). n - l.front.at) len)
    (tag.bytes (later p l.i) (content_type p.content) l.invariant.type l.invariant.tag)
    (tag.fits (later p l.i) (content_type p.content) l.invariant.type l.invariant.tag)
    (tag.ether_type (later p l.i) (content_type p.content) l.invariant.tag) (tag.vlan_type (later p l.i)))

pub write_link-requires : goal.write_link-requires
write_link-requires c = search (rules, room_for_link)

pub returns : goal.returns
returns c =
    let p = c.args.self.now in
    let l = c.loop-i in
    let over = c.loop-i-test.false in
    let none : l.i ≡ 0 = omega (arith, over) in
    let so_far =
    subst
    (λ (i : ℕ).
    Filled p c.args.target.now l.target (later p i) l.front.at l.front.ether_type.0 l.front.vlan_type.0)
    none l.invariant in
    let len = c.requires.len in
    let room = c.requires.room in
    let link = c.write_link.ensures in
    subst (λ (n : ℕ). IsWritten p c.args.target.now n c.write_link.new.target) (sym len)
    (filled_all p c.args.target.now l.target c.write_link.new.target l.front.at l.front.ether_type.0 l.front.vlan_type.0
    c.requires.ethernet link.packet_type c.requires.chain (omega (arith, len, room)) so_far
    (link.bytes (inner_headers p) (content_type p.content) so_far.type so_far.tag)
    (link.fits (inner_headers p) (content_type p.content) so_far.type so_far.tag))
