use Rattle.std.proofs.Common.{ap, sym, ◌∙◌, eq-eqb, ne_eqb}
use Rattle.std.specs.Prelude.{None, if◌then◌else◌}
use Rattle.ether_fields.specs.Fields.{field_numbered, numbered_among, sections}
use Rattle.ether_fields.proofs.field.Field.of_number.Goals as goal

pub returns-then-number-eq0-clause-row : goal.returns-then-number-eq0-clause-row
unfolding field_numbered
returns-then-number-eq0-clause-row c =
    ap (λ b. if b then None else numbered_among c.args.number sections) (sym (eq-eqb _ _ c.if-number-eq0.true))

pub returns-clause-row : goal.returns-clause-row
unfolding field_numbered
returns-clause-row c =
    c.numbered_among.ensures.row
    ∙ ap (λ b. if b then None else numbered_among c.args.number sections) (sym (ne_eqb _ _ c.if-number-eq0.false))
