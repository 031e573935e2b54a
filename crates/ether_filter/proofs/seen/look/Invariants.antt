use Rattle.std.proofs.Common.{◌≡◌, ℕ, length, false}
use Rattle.std.specs.Iterator.{size}
use Rattle.ether_peel.specs.Walker.Next.{items_left}
use Rattle.ether_filter.specs.Seen.{nothing}
use Rattle.ether_filter.specs.TagMarks.{has_bit}
use Rattle.ether_filter.proofs.Looking.{Looks}
use Rattle.ether_filter.proofs.seen.look.Given as goal

abbrev pub invariant-loop-unit : goal.invariant-loop-unit
invariant-loop-unit l =
    (length l.ids ≡ length l.fn.ids)
    × (l.fn.seen ≡ nothing → ((n : ℕ) → has_bit l.fn.ids n ≡ false) → Looks l.fn.start l.fn.frame l.peel l.seen l.ids)

abbrev pub decreases-loop-unit : goal.decreases-loop-unit
decreases-loop-unit l = size (items_left l.peel)
