use Rattle.std.proofs.Common.{◌≡◌, ◌++◌, drop}
use Rattle.ether_make.specs.Bits.{bits_of}
use Rattle.ether_make.proofs.bits.push_bytes.Given as goal

abbrev pub invariant-loop-byte : goal.invariant-loop-byte
invariant-loop-byte l = l.bits.items ++ bits_of (drop l.byte-index l.bytes) ≡ l.fn.bits.items ++ bits_of l.bytes
