use Rattle.std.proofs.Common.{◌∙◌, sym, arith}
use Rattle.ether_make.proofs.TemplateLemmas.{filled-inside, filled-outside}
use Rattle.ether_make.proofs.template.fill.Goals as goal
use Rattle.ether_make.proofs.template.fill.Goals.{else-slot-bits-via-then-slot-bits+else-slot-bits-2, else-slot-bits-via-else-slot-bits}

pub returns-then-slot-bits-2-clause-bits : goal.returns-then-slot-bits-2-clause-bits
returns-then-slot-bits-2-clause-bits c =
    c.set_bits.ensures.bits ∙ sym (filled-inside c.args.slot.now c.args.number c.args.bytes.now (omega arith))

pub returns-else-slot-bits-clause-bits : goal.returns-else-slot-bits-clause-bits
returns-else-slot-bits-clause-bits c =
    elim c.else-slot-bits.branch [
      | else-slot-bits-via-then-slot-bits+else-slot-bits-2 w ↦
          sym (filled-outside c.args.slot.now c.args.number c.args.bytes.now (omega arith))
      | else-slot-bits-via-else-slot-bits w ↦
          sym (filled-outside c.args.slot.now c.args.number c.args.bytes.now (omega arith))
    ]
