use Rattle.std.specs.Prelude.{◌≡◌, drop}
use Rattle.ether_format.specs.declared.csv.Count.TheVariants.{Zero}
use Rattle.ether_format.specs.Columns.{column_view}
use Rattle.ether_format.specs.Counted.{counted}
use Rattle.ether_format.proofs.RowLemmas.{found_shown}
use Rattle.ether_format.proofs.csv.count_in.Given as goal

abbrev pub invariant-loop-found : goal.invariant-loop-found
invariant-loop-found l =
    counted l.count (found_shown (column_view l.column) (drop l.found-index l.headers))
    ≡ counted Zero (found_shown (column_view l.column) l.headers)
