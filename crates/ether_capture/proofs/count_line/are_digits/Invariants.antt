use Rattle.std.proofs.Common.{take}
use Rattle.std.specs.List.{All}
use Rattle.ether_capture.specs.Merging.{IsDigit}
use Rattle.ether_capture.proofs.count_line.are_digits.Given as goal

abbrev pub invariant-loop-digit : goal.invariant-loop-digit
invariant-loop-digit l = All IsDigit (take l.digit-index l.text)
