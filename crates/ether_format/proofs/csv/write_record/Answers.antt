use Rattle.std.proofs.Common.{[], ◌∷◌, ap, sym, map, ◌∙◌, arith}
use Rattle.std.specs.Prelude.{codes}
use Rattle.ether_format.specs.Columns.{column_view, columns_view}
use Rattle.ether_format.specs.Csv.{csv_field, csv_text}
use Rattle.ether_format.proofs.RowLemmas.{columns_end, columns_next, columns_start}
use Rattle.ether_format.proofs.ListLemmas.{first_others, none_of}
use Rattle.ether_format.proofs.csv.write_record.Goals as goal

pub loop-others-init : goal.loop-others-init
loop-others-init g c =
    columns_start (codes ",") (13 ∷ 10 ∷ []) (λ parts c. csv_field (csv_text c parts)) g.W.Sink.contents
    g.W.Sink.can_fail
    (columns_view c.args.columns.now) c.args.row.now
    c.first-column.result c.others-others.result.now c.args.out.now
    (c.others-others.ensures ∙ ap (λ d. column_view d ∷ map column_view c.others-others.result.now)
    (sym c.first-column.ensures))

pub loop-others-preserved : goal.loop-others-preserved
loop-others-preserved g c =
    columns_next (codes ",") (13 ∷ 10 ∷ []) (λ parts c. csv_field (csv_text c parts)) g.W.Sink.contents
    g.W.Sink.can_fail
    (columns_view c.args.columns.now) c.args.row.now
    c.loop-others.column _ c.loop-others.others.now _ c.args.out.now c.loop-others.out
    c.write_field.new.out
    c.append-in-len1-up.new.self (first_others c.loop-others.others.now _ c.in-len1-up.len_at_least)
    c.loop-others.invariant
    c.write_field.ensures c.append-in-len1-up.ensures

pub returns-in-empty : goal.returns-in-empty
returns-in-empty g c =
    let few = c.in-empty.len_below in
    columns_end (codes ",") (13 ∷ 10 ∷ []) (λ parts c. csv_field (csv_text c parts)) g.W.Sink.contents
    g.W.Sink.can_fail
    (columns_view c.args.columns.now) c.args.row.now
    c.loop-others.column c.loop-others.others.now c.args.out.now c.loop-others.out
    c.write_field.new.out
    c.append.new.self (none_of c.loop-others.others.now (omega (arith, few))) c.loop-others.invariant
    c.write_field.ensures c.append.ensures
