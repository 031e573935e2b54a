use Rattle.ether_filter.specs.Expressions.{Expression}
use Rattle.ether_filter.specs.FilterProgram.{IsProgramOf}
use Rattle.ether_c.specs.Selection.{IsMark}
use Rattle.ether_c.proofs.EachPut.{PutSoFar}
use Rattle.ether_c.proofs.selecting.put_marks.Given as goal

abbrev pub invariant-loop-at : goal.invariant-loop-at
invariant-loop-at l =
    (x : Expression) → IsProgramOf l.instructions x → PutSoFar (IsMark x) l.packets l.fn.matches l.matches l.at
