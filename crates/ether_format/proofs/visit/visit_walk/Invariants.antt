use Rattle.std.specs.Iterator.{size}
use Rattle.ether_peel.specs.Walker.Start.{start_with}
use Rattle.ether_peel.specs.Walker.Next.{items_left}
use Rattle.ether_format.proofs.VisitLemmas.{SoFar}
use Rattle.ether_format.proofs.visit.visit_walk.Given as goal

abbrev pub invariant-loop-unit : goal.invariant-loop-unit
invariant-loop-unit g l =
    SoFar g.V.Visitor.takes l.fn.header_len (start_with l.fn.start l.fn.limit) l.frame l.fn.visitor l.fn.target l.peel
    l.visitor l.target

abbrev pub decreases-loop-unit : goal.decreases-loop-unit
decreases-loop-unit g l = size (items_left l.peel)
