use Rattle.ether_filter.specs.declared.primitive.Primitive.TheVariants as primitives
use Rattle.ether_filter.proofs.Iffs.{or_self, or_else}
use Rattle.ether_filter.proofs.Outcomes.{possible_by}
use Rattle.ether_filter.proofs.PossibleLemmas.{refused_outcome}
use Rattle.ether_filter.proofs.possible.of_refused.Goals as goal

pub returns-then-after : goal.returns-then-after
returns-then-after c packet hs kind known room o =
    possible_by packet primitives.Refused _ (refused_outcome packet hs kind known room c.args.after _ o
    (or_self c.args.after.can_be_refused c.if-after.true (λ t. t, λ t. t)) (λ t. t, λ t. t))

pub returns-else-after : goal.returns-else-after
returns-else-after c packet hs kind known room o =
    possible_by packet primitives.Refused _ (refused_outcome packet hs kind known room c.args.after _ o
    (or_else c.args.after.can_be_refused c.refusal_can_follow-later.result c.if-after.false (λ t. t, λ t. t)
    c.refusal_can_follow-later.ensures.condition) (λ t. t, λ t. t))
