use Rattle.std.proofs.Common.{◌+◌, ◌/◌, ◌≤◌, length}
use Rattle.std.specs.Iterator.{size}
use Rattle.ether_peel.specs.Walker.Start.{start_of}
use Rattle.ether_peel.specs.Walker.Next.{items_left}
use Rattle.ether_c.proofs.FieldsGiven.{FieldsSoFar}
use Rattle.ether_c.proofs.fields.fields_walked.Given as goal

abbrev pub invariant-loop-unit : goal.invariant-loop-unit
invariant-loop-unit l =
    (l.index + size (items_left l.peel) ≤ length l.bytes / 4 + 1)
    × FieldsSoFar (start_of l.fn.start) l.bytes l.peel l.index l.count l.fn.fields l.fields

abbrev pub decreases-loop-unit : goal.decreases-loop-unit
decreases-loop-unit l = size (items_left l.peel)
