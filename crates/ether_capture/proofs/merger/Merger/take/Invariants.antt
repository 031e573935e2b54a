use Rattle.std.proofs.Common.{◌≡◌, ◌++◌, List, ℕ, length}
use Rattle.ether_capture.specs.Merges.{Merges}
use Rattle.ether_capture.proofs.merger.Merger.take.Given as goal

abbrev pub invariant-loop-before : goal.invariant-loop-before
invariant-loop-before l =
    (text : List ℕ) → Merges text l.fn.self
    → (done : List ℕ) × (l.bytes ≡ done ++ l.rest) × Merges (text ++ done) l.self

abbrev pub decreases-loop-before : goal.decreases-loop-before
decreases-loop-before l = length l.rest
