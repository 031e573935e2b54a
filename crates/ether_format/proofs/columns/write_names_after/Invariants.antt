use Rattle.std.proofs.Common.{◌++◌}
use Rattle.ether_format.specs.Columns.{column_name, column_view}
use Rattle.ether_format.proofs.ListLemmas.{WritesFirst}
use Rattle.ether_format.proofs.columns.write_names_after.Given as goal

abbrev pub invariant-loop-column : goal.invariant-loop-column
invariant-loop-column g l =
    WritesFirst g.W.Sink.contents g.W.Sink.can_fail
    (λ c. l.separator ++ column_name (column_view c)) l.columns l.column-index l.fn.out l.out
