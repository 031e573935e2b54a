use Rattle.std.specs.Iterator.{size}
use Rattle.ether_peel.specs.Walker.Next.{items_left}
use Rattle.ether_peel.specs.Walker.Start.{start_of}
use Rattle.ether_packet.proofs.FindVlan.{Passed}
use Rattle.ether_packet.proofs.setting.outermost_with.Given as goal

abbrev pub invariant-loop-unit : goal.invariant-loop-unit
invariant-loop-unit l = Passed (start_of l.fn.start) l.fn.frame l.peel l.fn.vlan_id l.index

abbrev pub decreases-loop-unit : goal.decreases-loop-unit
decreases-loop-unit l = size (items_left l.peel)
