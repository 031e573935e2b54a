use Rattle.std.proofs.Common.{◌++◌, List, sym, ap, ◌∙◌, append_assoc, codes}
use Rattle.std.specs.List.{flat_map, join_by}
use Rattle.std.proofs.lemmas.List.Folds.{flat_map-map}
use Rattle.ether_output.proofs.OutputBufferLemmas.{Takes-then, Takes-same}
use Rattle.ether_format.specs.Columns.{ColumnValue, column_name, column_view}
use Rattle.ether_format.proofs.columns.Columns.write_heading.Goals as goal

pub returns : goal.returns
returns g c =
    let first = column_name (column_view c.args.self.now.first) in
    let others = c.others.result.now in
    let after = flat_map (λ d. codes "\t" ++ column_name (column_view d)) others in
    Takes-same
    (sym (append_assoc first after (codes "\n"))
    ∙ ap (λ t. (first ++ t) ++ codes "\n") (sym (flat_map-map (λ d. codes "\t" ++ column_name d) column_view others))
    ∙ ap (λ (l : List ColumnValue). join_by column_name (codes "\t") l ++ codes "\n") (sym c.others.ensures))
    (Takes-then c.write_name.ensures (Takes-then c.write_names_after.ensures c.append.ensures))
