use Rattle.std.proofs.Common.{◌≡◌, List, ◌++◌, refl, sym, subst, ◌∙◌}
use Rattle.std.specs.Prelude.{codes}
use Rattle.std.specs.List.{IsAmong}
use Rattle.ether_fields.specs.Fields.{column_names, section_rows}
use Rattle.ether_fields.specs.Rows.{Row}
use Rattle.ether_format.specs.Columns.{name_at}
use Rattle.ether_format.proofs.Names.{row_name}
use Rattle.ether_format.proofs.ParsingLemmas.{if_none, no_column_member, no_column_plain, no_column_section}
use Rattle.ether_format.proofs.column.Column.of_name.Goals as goal

pub returns-in_err-section-clause-none : goal.returns-in_err-section-clause-none
returns-in_err-section-clause-none c =
    if_none c.from_residual.result _ (no_column_plain c.args.name.now c.in_err-section.ensures.none)

pub returns-in_err-section-2-clause-none : goal.returns-in_err-section-2-clause-none
returns-in_err-section-2-clause-none c =
    if_none c.from_residual-in_err-section-2.result _
    (no_column_section c.args.name.now c.in_ok-section.section.now c.in_ok-section.member.now
    c.in_ok-section.ensures.some
    c.in_err-section-2.ensures.none)

pub returns-in_err-index-clause-none : goal.returns-in_err-index-clause-none
returns-in_err-index-clause-none c =
    if_none c.from_residual-in_err-index.result _
    (no_column_member c.args.name.now c.in_ok-section.section.now c.in_ok-section.member.now c.in_ok-section-2.section
    c.fields.result.now
    c.in_ok-section.ensures.some c.in_ok-section-2.ensures.some c.fields.ensures.rows c.in_err-index.ensures.none)

pub returns-clause-some : goal.returns-clause-some
returns-clause-some c =
    let s = c.in_ok-section-2.section in
    let i = c.in_ok-index.index in
    let fields = c.fields.result.now in
    let rows = section_rows s in
    let split = c.in_ok-section.ensures.some in
    let found = c.in_ok-index.ensures.some in
    let name : name_at rows i ≡ c.in_ok-section.member.now = row_name fields rows i c.fields.ensures.rows ∙ found.0 in (
      record {
        of = s;
        is_section = refl;
        is_field =
            subst (IsAmong (column_names rows)) (sym name)
            (subst (λ (l : List Row). IsAmong (column_names l) c.in_ok-section.member.now) c.fields.ensures.rows
            found.1);
      },
      (λ k. c.in_ok-section-2.ensures.some k ++ (codes "." ++ name k)) ∙ sym split.parts,
    )
