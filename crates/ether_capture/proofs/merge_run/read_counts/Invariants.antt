use Rattle.std.proofs.Common.{◌≤◌, List, ℕ, length}
use Rattle.std.specs.Io.KnownBytes.{Consumes}
use Rattle.ether_capture.specs.Merges.{Merges}
use Rattle.ether_capture.proofs.merge_run.read_counts.Given as goal

abbrev pub invariant-loop : goal.invariant-loop
invariant-loop g l =
    (text : List ℕ) × Consumes (g.R.Source.remaining l.fn.reader) (g.R.Source.remaining l.reader) text
    × Merges text l.counts × (l.counter ≤ length text)
