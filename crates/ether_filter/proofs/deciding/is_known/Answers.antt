use Rattle.std.proofs.Common.{refl, sym, ◌∙◌, ap, Bool}
use Rattle.std.specs.Prelude.{◌&&◌}
use Rattle.ether_filter.specs.FieldTests.{field_holds}
use Rattle.ether_filter.proofs.Known.{known_passed, known_told, unknown_fcs}
use Rattle.ether_filter.proofs.deciding.is_known.Goals as goal

pub returns-then-not-can_tell : goal.returns-then-not-can_tell
returns-then-not-can_tell c packet hs e walk is at = (
  λ t. known_passed packet hs e c.args.test c.args.opening c.in-Some.layer at c.in-Some.is
      (sym c.if-not-can_tell.ensures),
  λ k. rw c.if-not-can_tell.true refl,
)

pub returns-then-asks_any : goal.returns-then-asks_any
returns-then-asks_any c packet hs e walk is at =
    known_told packet hs e c.args.test c.args.opening c.in-Some.layer _ walk at c.in-Some.is
    (sym c.if-not-can_tell.ensures)
    (is ∙ ap (λ (b : Bool). b && field_holds c.args.test hs) c.if-asks_any.ensures)

pub returns-else-asks_any : goal.returns-else-asks_any
returns-else-asks_any c packet hs e walk is at =
    known_told packet hs e c.args.test c.args.opening c.in-Some.layer c.asks_any.result walk at c.in-Some.is
    (sym c.if-not-can_tell.ensures)
    (c.if-asks_any.false ∙ ap (λ (b : Bool). b && field_holds c.args.test hs) c.if-asks_any.ensures)

pub returns-in-None : goal.returns-in-None
returns-in-None c packet hs e walk is at = (
  λ t. absurd cc,
  λ k. absurd (unknown_fcs packet hs e c.args.test c.args.opening walk at c.in-None.is k),
)
