use Rattle.std.proofs.Common.{◌≡◌, ◌+◌, ◌*◌, ◌^◌, ◌<◌, drop, length}
use Rattle.ether_base.specs.Bytes.{number}
use Rattle.ether_make.proofs.range.number.Given as goal

abbrev pub invariant-loop-byte : goal.invariant-loop-byte
invariant-loop-byte l = record {
  small : l.number < 256 ^ l.byte-index;
  so_far : l.number * 256 ^ length (drop l.byte-index l.bytes) + number (drop l.byte-index l.bytes) ≡ number l.bytes;
}
