use Rattle.std.proofs.Common.{◌≡◌, ◌++◌, ◌≤◌, ◌-◌, ◌+◌, length, drop}
use Rattle.ether_make.specs.Bits.{packed}
use Rattle.ether_make.proofs.bits.pack.Given as goal

abbrev pub invariant-loop-at : goal.invariant-loop-at
invariant-loop-at l = record {
  inside : l.at ≤ length l.bits;
  so_far : l.bytes.items ++ packed (drop l.at l.bits) ≡ l.fn.bytes.items ++ packed l.bits;
}

abbrev pub decreases-loop-at : goal.decreases-loop-at
decreases-loop-at l = length l.bits + 1 - l.at
