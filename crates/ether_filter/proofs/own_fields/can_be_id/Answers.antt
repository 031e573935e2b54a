use Rattle.std.proofs.Common.{◌+◌, ◌*◌, ◌/◌, ◌%◌, ℕ, length, arith, sym, ap, ◌∙◌, nat_eq, nat_lt}
use Rattle.std.specs.Prelude.{get_or, not}
use Rattle.std.proofs.lemmas.Bool.{eqb-true, eq-eqb, lt-ltb, le-ltb}
use Rattle.ether_filter.proofs.FieldChoices.{id_among}
use Rattle.ether_filter.proofs.Iffs.{lt_iff, not_iff, or_self, or_else}
use Rattle.ether_filter.proofs.own_fields.can_be_id.Goals as goal

pub returns-then-is_short : goal.returns-then-is_short
returns-then-is_short c room long =
    let known = c.args.known.now in
    let n = c.digit.result % 16 * 256 + c.digit-2.result in
    let same = c.from-wanted.ensures in
    let first = c.digit.ensures.value ∙ ap (λ (w : ℕ). get_or known 0 (w / 256 % 256)) same in
    let second = c.digit-2.ensures.value ∙ ap (λ (w : ℕ). get_or known 1 (w % 256)) same in
    id_among known c.args.id n room _ (λ i. omega (arith, c.type_inv.known i)) c.requires.few long
    (omega (arith, first, second))
    (record {
      matches = (λ t. eqb-true n c.from-wanted.result t ∙ same, λ e. eq-eqb n c.from-wanted.result (e ∙ sym same));
      fails = or_self (nat_lt (length known) 2) (lt-ltb (length known) 2 c.if-is_short.true) (lt_iff (length known) 2);
    })

pub returns-else-is_short : goal.returns-else-is_short
returns-else-is_short c room long =
    let known = c.args.known.now in
    let n = c.digit.result % 16 * 256 + c.digit-2.result in
    let same = c.from-wanted.ensures in
    let first = c.digit.ensures.value ∙ ap (λ (w : ℕ). get_or known 0 (w / 256 % 256)) same in
    let second = c.digit-2.ensures.value ∙ ap (λ (w : ℕ). get_or known 1 (w % 256)) same in
    id_among known c.args.id n room _ (λ i. omega (arith, c.type_inv.known i)) c.requires.few long
    (omega (arith, first, second))
    (record {
      matches = (λ t. eqb-true n c.from-wanted.result t ∙ same, λ e. eq-eqb n c.from-wanted.result (e ∙ sym same));
      fails = or_else (nat_lt (length known) 2) (not (nat_eq n c.from-wanted.result))
          (le-ltb (length known) 2 c.if-is_short.false) (lt_iff (length known) 2)
          (not_iff (nat_eq n c.from-wanted.result)
          (λ t. eqb-true n c.from-wanted.result t ∙ same, λ e. eq-eqb n c.from-wanted.result (e ∙ sym same)));
    })
