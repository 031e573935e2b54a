use Rattle.std.proofs.Common.{◌≡◌, []}
use Rattle.ether_capture.specs.Waiting.{waiting}
use Rattle.ether_capture.proofs.row_slots.empty_slots.Given as goal

abbrev pub invariant-loop : goal.invariant-loop
invariant-loop l = waiting l.slots.items ≡ []
