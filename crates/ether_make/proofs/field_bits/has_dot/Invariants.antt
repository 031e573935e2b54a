use Rattle.std.proofs.Common.{◌≡◌, drop}
use Rattle.ether_make.specs.FieldBits.{has_dot}
use Rattle.ether_make.proofs.field_bits.has_dot.Given as goal

abbrev pub invariant-loop-c : goal.invariant-loop-c
invariant-loop-c l = has_dot l.text ≡ has_dot (drop l.c-index l.text)
