use Rattle.std.specs.Prelude.{codes, length}
use Rattle.ether_format.specs.Columns.{column_text, columns_view}
use Rattle.ether_format.proofs.RowLemmas.{WritesColumns}
use Rattle.ether_format.proofs.row.write_columns.Given as goal

abbrev pub invariant-loop-others : goal.invariant-loop-others
invariant-loop-others g l =
    WritesColumns (codes "\t") (codes "\n") (λ parts c. column_text c parts) g.W.Sink.contents g.W.Sink.can_fail
    (columns_view l.columns) l.row
    l.column l.others l.fn.out l.out

abbrev pub decreases-loop-others : goal.decreases-loop-others
decreases-loop-others g l = length l.others
