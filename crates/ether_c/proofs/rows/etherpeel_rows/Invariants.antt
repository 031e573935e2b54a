use Rattle.ether_c.specs.Rows.{HoldsRow}
use Rattle.ether_c.proofs.EachPut.{PutSoFar}
use Rattle.ether_c.proofs.rows.etherpeel_rows.Given as goal

abbrev pub invariant-loop-at : goal.invariant-loop-at
invariant-loop-at l = PutSoFar HoldsRow l.packets l.fn.rows l.rows l.at
