use Rattle.std.proofs.Common.{◌≡◌, take}
use Rattle.ether_base.specs.Bytes.{number}
use Rattle.ether_base.proofs.big_endian.number_of.Given as goal

abbrev pub invariant-loop-byte : goal.invariant-loop-byte
invariant-loop-byte l = l.number ≡ number (take l.byte-index l.bytes)
