use Rattle.ether_peel.specs.Walker.Start.{start_with}
use Rattle.ether_peel.proofs.Walker.WritingBack.{WritesSoFar}
use Rattle.ether_peel.proofs.writing_back.write_walk.Given as goal

abbrev pub invariant-loop-unit : goal.invariant-loop-unit
invariant-loop-unit l = WritesSoFar (start_with l.fn.start l.fn.limit) l.bytes l.peel l.at l.fn.target l.target
