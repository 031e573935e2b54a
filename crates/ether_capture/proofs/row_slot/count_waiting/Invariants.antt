use Rattle.std.proofs.Common.{take}
use Rattle.ether_capture.specs.CountTable.{count_at}
use Rattle.ether_capture.specs.Waiting.{Adds, spreads, waiting}
use Rattle.ether_capture.proofs.row_slot.count_waiting.Given as goal

abbrev pub invariant-loop-slot : goal.invariant-loop-slot
invariant-loop-slot g l =
    Adds (spreads g.G.Grouping.is_joint l.heading (waiting (take l.slot-index l.slots))) (count_at l.fn.counts)
    (count_at l.counts)
