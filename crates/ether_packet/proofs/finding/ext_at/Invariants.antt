use Rattle.std.proofs.Common.{◌≤◌}
use Rattle.std.specs.Iterator.{size}
use Rattle.ether_peel.specs.Walker.Next.{items_left}
use Rattle.ether_peel.specs.Walker.Start.{start_of}
use Rattle.ether_packet.proofs.Reached.{Reached}
use Rattle.ether_packet.proofs.finding.ext_at.Given as goal

abbrev pub invariant-loop-unit : goal.invariant-loop-unit
invariant-loop-unit l =
    (l.count ≤ l.fn.index)
    × Reached (start_of l.fn.start) l.fn.frame l.peel l.count

abbrev pub decreases-loop-unit : goal.decreases-loop-unit
decreases-loop-unit l = size (items_left l.peel)
