use Rattle.std.proofs.Common.{◌≡◌, refl, sym, ◌∙◌, inl, inr, true, false}
use Rattle.std.specs.List.{list_any}
use Rattle.ether_filter.specs.declared.primitive.Primitive.TheVariants as primitives
use Rattle.ether_filter.specs.Primitives.{is_tag}
use Rattle.ether_filter.proofs.Outcomes.{false_or}
use Rattle.ether_filter.proofs.PossibleCases.{reached, own_fits, own_inner_case, first_inner_case, other_inner_case}
use Rattle.ether_filter.proofs.possible.of_inner_vlan.Goals as goal

pub returns-then-told : goal.returns-then-told
returns-then-told c packet hs known room o fits a =
    own_inner_case packet hs c.args.kind known room c.args.after c.args.id c.args.own c.or.result
    c.can_have_id.result c.tag_can_follow-follows.result o (a.has_tag.0 c.if-told.true)
    (c.is_vlan.ensures.0 c.if-is_vlan.true)
    (own_fits (primitives.InnerVlan c.args.id) c.args.kind known c.args.own (c.is_vlan.ensures.0 c.if-is_vlan.true).0
    fits)
    (reached c.args.id c.can_have_id.result c.tag_can_follow-follows.result c.args.after 4 c.can_have_id.ensures
    c.tag_can_follow-follows.ensures.condition)
    c.tag_can_follow-follows.ensures.condition c.or.ensures.matches c.or.ensures.fails

pub returns-then-is_vlan : goal.returns-then-is_vlan
returns-then-is_vlan c packet hs known room o fits a =
    first_inner_case packet hs c.args.kind known room c.args.after c.args.id c.can_have_id.result o
    (false_or (list_any is_tag hs) (λ t. (let clash : false ≡ true = sym c.if-told.false ∙ a.has_tag.1 t in cc)))
    (c.is_vlan.ensures.0 c.if-is_vlan.true)
    (reached c.args.id c.can_have_id.result c.tag_can_follow-follows.result c.args.after 4 c.can_have_id.ensures
    c.tag_can_follow-follows.ensures.condition)

pub returns-then-told-2 : goal.returns-then-told-2
returns-then-told-2 c packet hs known room o fits a =
    other_inner_case packet hs c.args.kind known room c.args.after c.args.id c.args.told c.decided.result
    c.or-then-told-2.result c.can_have_id.result c.tag_can_follow-follows.result true 4 o a
    (λ mine. (let clash : false ≡ true = sym c.if-is_vlan.false ∙ c.is_vlan.ensures.1 mine in cc))
    (inl (refl, refl)) (a.has_tag.0 c.if-told-2.true) c.decided.ensures.matches c.decided.ensures.fails
    (reached c.args.id c.can_have_id.result c.tag_can_follow-follows.result c.args.after 4 c.can_have_id.ensures
    c.tag_can_follow-follows.ensures.condition)
    c.tag_can_follow-follows.ensures.condition c.or-then-told-2.ensures.matches c.or-then-told-2.ensures.fails

pub returns : goal.returns
returns c packet hs known room o fits a =
    other_inner_case packet hs c.args.kind known room c.args.after c.args.id c.args.told c.decided-2.result
    c.or-2.result c.can_have_id-2.result c.tag_can_follow-follows.result false 8 o a
    (λ mine. (let clash : false ≡ true = sym c.if-is_vlan.false ∙ c.is_vlan.ensures.1 mine in cc))
    (inr (refl, refl))
    (false_or (list_any is_tag hs) (λ t. (let clash : false ≡ true = sym c.if-told-2.false ∙ a.has_tag.1 t in cc)))
    c.decided-2.ensures.matches c.decided-2.ensures.fails
    (reached c.args.id c.can_have_id-2.result c.two_tags_can_follow.result c.args.after 8 c.can_have_id-2.ensures
    c.two_tags_can_follow.ensures.condition)
    c.tag_can_follow-follows.ensures.condition c.or-2.ensures.matches c.or-2.ensures.fails
