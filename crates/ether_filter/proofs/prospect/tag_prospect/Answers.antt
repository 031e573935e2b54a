use Rattle.std.proofs.Common.{arith}
use Rattle.ether_filter.proofs.ShortSecTags.{tag_short}
use Rattle.ether_filter.proofs.prospect.tag_prospect.Goals as goal

pub returns-then-room-lt6 : goal.returns-then-room-lt6
returns-then-room-lt6 c =
    tag_short c.args.known.now c.args.room (λ i. omega (arith, c.type_inv.known i)) c.requires.inside
    c.if-room-lt6.true
