use Rattle.std.proofs.Common.{◌+◌, ◌/◌, ◌≤◌, length}
use Rattle.std.specs.Iterator.{size}
use Rattle.ether_peel.specs.Walker.Start.{start_with}
use Rattle.ether_peel.specs.Walker.Next.{items_left}
use Rattle.ether_peel.proofs.Walker.Summarizing.{Walked}
use Rattle.ether_c.proofs.UnitsGiven.{GivesSoFar}
use Rattle.ether_c.proofs.walking.walked.Given as goal

abbrev pub invariant-loop-unit : goal.invariant-loop-unit
invariant-loop-unit l = (l.count + size (items_left l.peel) ≤ length l.bytes / 4 + 1)
    × GivesSoFar (start_with l.fn.start l.fn.limit) l.bytes l.peel l.count l.fn.units l.units
    × Walked (start_with l.fn.start l.fn.limit) l.bytes l.peel l.count

abbrev pub decreases-loop-unit : goal.decreases-loop-unit
decreases-loop-unit l = size (items_left l.peel)
