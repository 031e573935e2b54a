use Rattle.std.proofs.Common.{length}
use Rattle.ether_format.specs.Columns.{columns_view}
use Rattle.ether_format.proofs.ParsingLemmas.{TakesNames, left_of}
use Rattle.ether_format.proofs.columns.Columns.of_bytes.Given as goal

abbrev pub invariant-loop-rest : goal.invariant-loop-rest
invariant-loop-rest l = TakesNames l.text (columns_view l.columns) (left_of l.rest)

abbrev pub decreases-loop-rest : goal.decreases-loop-rest
decreases-loop-rest l = length (left_of l.rest)
