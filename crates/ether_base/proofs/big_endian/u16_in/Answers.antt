use Rattle.std.proofs.Common.{arith}
use Rattle.ether_base.proofs.NumberAt.{number_within}
use Rattle.ether_base.proofs.big_endian.u16_in.Goals as goal

pub overflow_cast-result : goal.overflow_cast-result
overflow_cast-result c =
    let short = c.in-None.ensures.cases in
    omega (
      arith,
      c.number_of.ensures,
      number_within c.args.field.now 2 (λ i. omega (arith, c.type_inv.field i)) (omega arith),
    )
