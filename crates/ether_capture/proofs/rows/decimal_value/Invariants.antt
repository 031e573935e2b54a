use Rattle.std.proofs.Common.{◌≡◌, take}
use Rattle.ether_stream.specs.Packets.{counted}
use Rattle.ether_capture.specs.RowFields.{decimal_value}
use Rattle.ether_capture.proofs.rows.decimal_value.Given as goal

abbrev pub invariant-loop-digit : goal.invariant-loop-digit
invariant-loop-digit l = l.value ≡ counted (decimal_value 0 (take l.digit-index l.digits))
