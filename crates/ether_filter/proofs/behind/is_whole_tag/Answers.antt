use Rattle.std.proofs.Common.{length, arith}
use Rattle.std.proofs.lemmas.Bool.{leb-true, leb-false}
use Rattle.ether_filter.proofs.Behinds.{whole_tag, cut_tag}
use Rattle.ether_filter.proofs.behind.is_whole_tag.Goals as goal

pub returns-in-len2-up-clause-whole : goal.returns-in-len2-up-clause-whole
returns-in-len2-up-clause-whole c t =
    whole_tag c.args.known.now c.tag_len.result (λ i. omega (arith, c.type_inv.known i)) c.in-len2-up.len_at_least
    c.tag_len.ensures (leb-true c.tag_len.result (length c.args.known.now) t)

pub returns-in-len2-up-clause-cut : goal.returns-in-len2-up-clause-cut
returns-in-len2-up-clause-cut c is first second begins =
    cut_tag c.args.known.now c.tag_len.result first second (λ i. omega (arith, c.type_inv.known i)) c.tag_len.ensures
    (leb-false c.tag_len.result (length c.args.known.now) is) begins
