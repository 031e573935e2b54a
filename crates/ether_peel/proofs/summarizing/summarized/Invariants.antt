use Rattle.std.proofs.Common.{◌+◌, ◌/◌, ◌≤◌, length}
use Rattle.std.specs.Iterator.{size}
use Rattle.ether_peel.specs.Walker.Start.{start_with}
use Rattle.ether_peel.specs.Walker.Next.{items_left}
use Rattle.ether_peel.proofs.Walker.Summarizing.{Walked}
use Rattle.ether_peel.proofs.summarizing.summarized.Given as goal

abbrev pub invariant-loop-units : goal.invariant-loop-units
invariant-loop-units l =
    (l.units + size (items_left l.peel) ≤ length l.fn.bytes / 4 + 1)
    × Walked (start_with l.fn.start l.fn.limit) l.fn.bytes l.peel l.units

abbrev pub decreases-loop-units : goal.decreases-loop-units
decreases-loop-units l = size (items_left l.peel)
