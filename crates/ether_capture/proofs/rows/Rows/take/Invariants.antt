use Rattle.std.proofs.Common.{◌≡◌, ◌++◌, List, ℕ, length}
use Rattle.ether_capture.specs.Tabulating.{Tabulates}
use Rattle.ether_capture.proofs.rows.Rows.take.Given as goal

abbrev pub invariant-loop-before : goal.invariant-loop-before
invariant-loop-before g l =
    (text : List ℕ) → Tabulates g.G.Grouping.is_joint text l.fn.self
    → (done : List ℕ) × (l.bytes ≡ done ++ l.rest) × Tabulates g.G.Grouping.is_joint (text ++ done) l.self

abbrev pub decreases-loop-before : goal.decreases-loop-before
decreases-loop-before g l = length l.rest
