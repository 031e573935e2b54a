use Rattle.std.proofs.Common.{arith}
use Rattle.ether_base.proofs.NumberAt.{taken_below}
use Rattle.ether_base.proofs.big_endian.number_of.Goals as goal

pub overflow_mul-number : goal.overflow_mul-number
overflow_mul-number c =
    omega (
      arith,
      c.loop-byte.invariant,
      taken_below c.args.bytes.now c.loop-byte.byte-index
          (λ i. omega (arith, c.type_inv.bytes i)) c.loop-byte-test.true c.requires,
    )

pub overflow_add-number : goal.overflow_add-number
overflow_add-number c =
    omega (
      arith,
      c.loop-byte.invariant,
      c.from.ensures,
      c.type_inv.bytes c.loop-byte.byte-index,
      taken_below c.args.bytes.now c.loop-byte.byte-index
          (λ i. omega (arith, c.type_inv.bytes i)) c.loop-byte-test.true c.requires,
    )
