use Rattle.std.specs.Iterator.{size}
use Rattle.ether_peel.specs.Walker.Next.{items_left}
use Rattle.ether_filter.proofs.FieldLooking.{Looks}
use Rattle.ether_filter.proofs.field_match.matches_field.Given as goal

abbrev pub invariant-loop-unit : goal.invariant-loop-unit
invariant-loop-unit l = Looks l.test l.fn.start l.frame l.peel l.found

abbrev pub decreases-loop-unit : goal.decreases-loop-unit
decreases-loop-unit l = size (items_left l.peel)
