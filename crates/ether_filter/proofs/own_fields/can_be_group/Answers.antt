use Rattle.std.proofs.Common.{◌%◌, arith}
use Rattle.std.proofs.lemmas.Bool.{eqb-true, eq-eqb}
use Rattle.ether_filter.proofs.FieldChoices.{group_among}
use Rattle.ether_filter.proofs.own_fields.can_be_group.Goals as goal

pub returns : goal.returns
returns c room long =
    group_among c.args.known.now room _ (λ i. omega (arith, c.type_inv.known i)) c.requires.few long (
      λ t. omega (arith, eqb-true (c.digit.result % 2) 1 t, c.digit.ensures.value),
      λ e. eq-eqb (c.digit.result % 2) 1 (omega (arith, e, c.digit.ensures.value)),
    ) (
      λ t. omega (arith, eqb-true (c.digit-2.result % 2) 0 t, c.digit-2.ensures.value),
      λ e. eq-eqb (c.digit-2.result % 2) 0 (omega (arith, e, c.digit-2.ensures.value)),
    )
