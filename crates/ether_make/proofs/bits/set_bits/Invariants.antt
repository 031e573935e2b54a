use Rattle.std.proofs.Common.{◌≡◌, ◌≤◌, length}
use Rattle.ether_make.specs.Bits.{bits_of, with_bits}
use Rattle.ether_make.proofs.bits.set_bits.Given as goal

abbrev pub invariant-loop-left : goal.invariant-loop-left
invariant-loop-left l = record {
  inside : l.left ≤ l.len;
  same_len : length l.bytes ≡ length l.fn.bytes;
  to_do : with_bits l.at l.left l.more (bits_of l.bytes) ≡ with_bits l.at l.len l.value (bits_of l.fn.bytes);
}

abbrev pub decreases-loop-left : goal.decreases-loop-left
decreases-loop-left l = l.left
