use Rattle.std.proofs.Common.{◌≡◌, ◌<◌, ◌^◌, take}
use Rattle.etherparse.specs.Bytes.{number}
use Rattle.ether_c.proofs.field_value.number_of.Given as goal

abbrev pub invariant-loop-byte : goal.invariant-loop-byte
invariant-loop-byte l = (l.number ≡ number (take l.byte-index l.bytes)) × (l.number < 256 ^ l.byte-index)
