use Rattle.std.proofs.Common.{◌≡◌, drop}
use Rattle.ether_filter.specs.Subjects.{row_among}
use Rattle.ether_filter.proofs.subject.named_among.Given as goal

abbrev pub invariant-loop-section : goal.invariant-loop-section
invariant-loop-section l = row_among l.name l.sections ≡ row_among l.name (drop l.section-index l.sections)
