use Rattle.std.proofs.Common.{◌≡◌, ◌++◌}
use Rattle.ether_make.specs.Bits.{bits}
use Rattle.ether_make.proofs.bits.push_bits.Given as goal

abbrev pub invariant-loop-left : goal.invariant-loop-left
invariant-loop-left l =
    l.bits.items ++ bits l.left l.value ≡ l.fn.bits.items ++ bits l.count l.value

abbrev pub decreases-loop-left : goal.decreases-loop-left
decreases-loop-left l = l.left
