use Rattle.std.proofs.Common.{◌≡◌, ◌++◌, List, ℕ}
use Rattle.std.specs.List.{flat_map}
use Rattle.ether_output.specs.OutputBuffer.{Takes}
use Rattle.ether_capture.proofs.StatisticsLemmas.{entry_line}
use Rattle.ether_capture.proofs.count_table.CountTable.write.Given as goal

abbrev pub invariant-loop-key : goal.invariant-loop-key
invariant-loop-key g l =
    (text : List ℕ) × Takes g.W.Sink.contents g.W.Sink.can_fail l.fn.out text l.out
    × (text ++ flat_map (entry_line l.format) l.key-iterator ≡ flat_map (entry_line l.format) l.self.counts.entries)
