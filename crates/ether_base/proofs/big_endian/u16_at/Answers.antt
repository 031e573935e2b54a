use Rattle.std.proofs.Common.{arith}
use Rattle.ether_base.proofs.NumberAt.{rest_below}
use Rattle.ether_base.proofs.big_endian.u16_at.Goals as goal

pub overflow_cast-result : goal.overflow_cast-result
overflow_cast-result c =
    omega (
      arith,
      c.number_from.ensures,
      rest_below c.args.bytes.now c.args.at 2
          (λ i. omega (arith, c.type_inv.bytes i)) c.in-None.ensures.none,
    )
