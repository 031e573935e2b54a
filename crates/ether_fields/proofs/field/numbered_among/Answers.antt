use Rattle.std.proofs.Common.{List, ap, sym, ◌∙◌, map}
use Rattle.std.specs.Prelude.{slice_index_or}
use Rattle.ether_fields.specs.Fields.{column_name}
use Rattle.ether_fields.specs.Rows.{Row}
use Rattle.ether_fields.specs.declared.section.Section.TheVariants as sections
use Rattle.ether_fields.proofs.ColumnLemmas.{column_at}
use Rattle.ether_fields.proofs.field.numbered_among.Goals as goal

pub returns-in-Some-clause-column : goal.returns-in-Some-clause-column
returns-in-Some-clause-column c =
    let s = slice_index_or c.args.sections.now c.loop-section.section-index sections.Frame in
    column_at c.fields.result.now (column_name s) c.in-Some.field.now
    (c.fields.ensures.columns ∙ ap (λ (rows : List Row). map (column_name s) rows) (sym c.fields.ensures.rows))
    c.in-Some.ensures.among
