use Rattle.std.proofs.Common.{◌+◌, ◌-◌, length}
use Rattle.ether_peel.specs.Walker.Start.{start_with}
use Rattle.ether_peel.proofs.Walker.Feeding.{Feeds}
use Rattle.ether_peel.proofs.feeding.fed.Given as goal

abbrev pub invariant-loop-fault : goal.invariant-loop-fault
invariant-loop-fault l = Feeds (start_with l.fn.start l.fn.limit) l.fn.bytes l.peel l.taken l.refusals

abbrev pub decreases-loop-fault : goal.decreases-loop-fault
decreases-loop-fault l = (length l.fn.bytes - l.taken) + (length l.fn.bytes - l.peel.offset)
