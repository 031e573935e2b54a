use Rattle.std.proofs.Common.{◌<◌, sym, subst, arith, true, false, ℕ}
use Rattle.etherparse.specs.Bytes.{IsBytes}
use Rattle.etherparse.specs.Kind as kinds
use Rattle.ether_filter.specs.Prospects.{front_of, IsProspect}
use Rattle.ether_filter.proofs.SecTags.{tag_prospect, tag_byte, have_front, always_refused, unroomy_refused}
use Rattle.ether_filter.proofs.prospect.of_front.Goals as goal

pub returns-in-Some : goal.returns-in-Some
returns-in-Some c =
    let f = front_of c.args.first c.args.second in
    let known = c.args.known.now in
    let ok : IsBytes known = λ i. omega (arith, c.type_inv.known i) in
    let small : c.args.second < 256 = omega (arith, c.ranges.second) in
    let then = c.type_after_tag.ensures c.args.second small in
    let roomy = rw c.in-Some.is at c.room_after.ensures in
    subst (λ (n : ℕ). IsProspect kinds.Macsec known c.args.room
    (record { can_be_accepted = true; can_be_refused = false; next = c.type_after_tag.result; room = n })) (sym roomy.1)
    (tag_prospect known c.args.room f c.type_after_tag.result ok c.requires.least c.requires.inside c.requires.few
    (have_front c.args.first c.args.second known c.args.room c.requires.begins) roomy.0 then
    (tag_byte known f _ ok then))

pub returns-in-None : goal.returns-in-None
returns-in-None c =
    let f = front_of c.args.first c.args.second in
    let known = c.args.known.now in
    let never = rw c.in-None.is at c.room_after.ensures in
    always_refused kinds.Macsec known c.args.room (λ i. omega (arith, c.type_inv.known i)) c.requires.inside
    (λ bytes on. unroomy_refused bytes f c.args.room on.are_bytes c.requires.least on.len
    (have_front c.args.first c.args.second known c.args.room c.requires.begins bytes on) never)
