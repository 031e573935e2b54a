use Rattle.std.proofs.Common.{arith}
use Rattle.ether_filter.proofs.WithoutFcs.{refused_without_room}
use Rattle.ether_filter.proofs.without_fcs.without_fcs.Goals as goal

pub returns-then-total-lt18-clause-none : goal.returns-then-total-lt18-clause-none
returns-then-total-lt18-clause-none c is =
    refused_without_room c.args.packet.now is (omega (arith, c.if-total-lt18.true, c.frame_total-total.ensures))
