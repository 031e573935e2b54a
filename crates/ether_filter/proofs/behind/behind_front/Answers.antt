use Rattle.std.proofs.Common.{◌<◌, arith}
use Rattle.ether_filter.proofs.Behinds.{sec_tag_behind, sec_tag_refused}
use Rattle.ether_filter.proofs.behind.behind_front.Goals as goal

pub returns-in-None : goal.returns-in-None
returns-in-None c =
    let never = rw c.in-None.is at c.room_after.ensures in
    sec_tag_refused c.args.known.now c.args.first c.args.second c.args.room
    (omega (arith, c.requires.whole, c.requires.inside)) c.requires.begins never

pub returns-in-Some : goal.returns-in-Some
returns-in-Some c =
    let small : c.args.second < 256 = omega (arith, c.ranges.second) in
    let roomy = rw c.in-Some.is at c.room_after.ensures in
    sec_tag_behind c.args.known.now c.args.first c.args.second c.args.room c.tag_len.result c.in-Some.payload
    c.type_behind_tag.result (λ i. omega (arith, c.type_inv.known i)) c.requires.inside c.requires.begins
    c.requires.whole
    (c.tag_len.ensures c.args.second small) roomy.0 roomy.1 (c.type_behind_tag.ensures c.args.second small)
