use Rattle.std.proofs.Common.{[], ◌++◌, arith}
use Rattle.ether_c.specs.Copying.{pieces_bytes}
use Rattle.ether_c.proofs.CopiesPut.{holds_none, holds_more, holds_all}
use Rattle.ether_c.proofs.copying.put_pieces.Goals as goal

pub returns : goal.returns
returns c =
    let p = c.args.pieces.now in
    let old = c.args.target.now in
    let a = c.put_at-at.ensures in
    let b = c.put_at-at-2.ensures in
    let d = c.put_at-at-3.ensures in
    let e = c.put_at-at-4.ensures in
    let one = holds_more old [] p.front.now old _ 0 _ (holds_none old) a.end a.put in
    let two = holds_more old p.front.now p.changed.now _ _ _ _ one b.end b.put in
    let three = holds_more old (p.front.now ++ p.changed.now) p.padding.now _ _ _ _ two d.end d.put in
    let four =
    holds_more old (p.front.now ++ p.changed.now ++ p.padding.now) p.rest.now _ _ _ _ three e.end e.put in
    let five =
    holds_more old (p.front.now ++ p.changed.now ++ p.padding.now ++ p.rest.now) p.trailer.now _ _ _ _ four
    c.put_at.ensures.end c.put_at.ensures.put in
    holds_all old (pieces_bytes p) c.put_at.new.target c.put_at.result _ five
    (omega (arith, a.end, b.end, d.end, e.end, c.put_at.ensures.end))
    (omega (arith, a.end, b.end, d.end, e.end, c.put_at.ensures.end, c.if-target-len.false))
