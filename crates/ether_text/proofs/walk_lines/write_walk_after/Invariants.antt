use Rattle.std.specs.Iterator.{size}
use Rattle.ether_peel.specs.Walker.Start.{start_with}
use Rattle.ether_peel.specs.Walker.Next.{items_left}
use Rattle.ether_text.proofs.WalkLinesLemmas.{WritesWalk}
use Rattle.ether_text.proofs.walk_lines.write_walk_after.Given as goal

abbrev pub invariant-loop-unit : goal.invariant-loop-unit
invariant-loop-unit g l =
    WritesWalk g.W.Sink.contents g.W.Sink.can_fail l.fn.header_len (start_with l.fn.start l.fn.limit) l.frame l.peel
    l.fn.out l.out

abbrev pub decreases-loop-unit : goal.decreases-loop-unit
decreases-loop-unit g l = size (items_left l.peel)
