use Rattle.std.proofs.Common.{arith, refl}
use Rattle.ether_filter.specs.declared.primitive.Primitive.TheVariants as primitives
use Rattle.ether_filter.proofs.PossibleLemmas.{type_by}
use Rattle.ether_filter.proofs.ToldLemmas.{told_possible, open_possible}
use Rattle.ether_filter.proofs.possible.of_ether_type.Goals as goal

pub returns-then-told : goal.returns-then-told
returns-then-told c packet hs kind known room o a =
    told_possible packet hs kind known room c.args.after (primitives.EtherType c.args.number) _ _ c.args.told
    c.decided.result o
    (type_by packet hs kind known room c.args.after c.args.number (omega (arith, c.ranges.number)) o) a refl
    c.if-told.true c.decided.ensures.matches c.decided.ensures.fails

pub returns : goal.returns
returns c packet hs kind known room o a =
    open_possible packet hs kind known room c.args.after (primitives.EtherType c.args.number) _ _ c.args.told _ o
    (type_by packet hs kind known room c.args.after c.args.number (omega (arith, c.ranges.number)) o) a refl
    c.if-told.false c.type_can_follow.ensures.condition (λ t. tt, λ f. refl)
