use Rattle.std.proofs.Common.{◌≡◌, drop}
use Rattle.ether_format.specs.Csv.{has_special}
use Rattle.ether_format.proofs.text.has_special.Given as goal

abbrev pub invariant-loop-byte : goal.invariant-loop-byte
invariant-loop-byte l = has_special (drop l.byte-index l.text) ≡ has_special l.text
