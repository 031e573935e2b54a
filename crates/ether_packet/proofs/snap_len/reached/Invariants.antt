use Rattle.ether_peel.specs.Walker.Start.{start_of}
use Rattle.ether_packet.proofs.ReachLemmas.{Reached}
use Rattle.ether_packet.proofs.snap_len.reached.Given as goal

abbrev pub invariant-loop-unit : goal.invariant-loop-unit
invariant-loop-unit l = Reached (start_of l.fn.start) l.fn.frame l.peel l.len
