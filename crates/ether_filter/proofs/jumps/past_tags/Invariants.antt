use Rattle.std.proofs.Common.{◌≡◌, ℕ, ◌<◌, ◌≤◌, length}
use Rattle.std.specs.Prelude.{get_or}
use Rattle.ether_filter.specs.declared.filter.TheConstants.{MAX_WORDS}
use Rattle.ether_filter.specs.Jumps.{Passes}
use Rattle.ether_filter.proofs.jumps.past_tags.Given as goal

abbrev pub invariant-loop-at : goal.invariant-loop-at
invariant-loop-at l =
    (l.at ≤ length l.nodes) × (length l.past ≡ MAX_WORDS)
    × ((i : ℕ) → l.at ≤ i → i < length l.nodes → Passes l.nodes l.jumps i (get_or l.past i 0))

abbrev pub decreases-loop-at : goal.decreases-loop-at
decreases-loop-at l = l.at
