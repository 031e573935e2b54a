use Rattle.std.proofs.Common.{arith}
use Rattle.ether_filter.proofs.Prospects.{fixed, fixed_short}
use Rattle.ether_filter.proofs.prospect.of_fixed.Goals as goal

pub returns-then-room-len-clause-prospect : goal.returns-then-room-len-clause-prospect
returns-then-room-len-clause-prospect c kind is =
    fixed_short kind c.args.known.now c.args.room c.args.len is (λ i. omega (arith, c.type_inv.known i))
    c.requires.inside c.if-room-len.true

pub returns-clause-prospect : goal.returns-clause-prospect
returns-clause-prospect c kind is =
    fixed kind c.args.known.now c.args.room c.args.len c.type_at.result c.requires.least is
    (λ i. omega (arith, c.type_inv.known i)) c.requires.few c.if-room-len.false c.type_at.ensures
