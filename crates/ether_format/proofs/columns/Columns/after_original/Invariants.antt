use Rattle.std.proofs.Common.{◌≡◌, ◌∷◌, map, take}
use Rattle.ether_format.specs.Columns.{column_view, columns_view, original_column}
use Rattle.ether_format.proofs.columns.Columns.after_original.Given as goal

abbrev pub invariant-loop-column : goal.invariant-loop-column
invariant-loop-column l =
    columns_view l.columns ≡ original_column ∷ column_view l.self.first
    ∷ map column_view (take l.column-index l.column-items)
