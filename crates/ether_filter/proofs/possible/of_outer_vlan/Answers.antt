use Rattle.std.proofs.Common.{◌≡◌, refl, sym, ◌∙◌, true, false}
use Rattle.std.specs.List.{list_any}
use Rattle.ether_filter.specs.declared.primitive.Primitive.TheVariants as primitives
use Rattle.ether_filter.specs.Primitives.{is_tag}
use Rattle.ether_filter.proofs.Outcomes.{false_or}
use Rattle.ether_filter.proofs.PossibleCases.{reached, own_fits, own_outer_case, other_outer_case}
use Rattle.ether_filter.proofs.ToldLemmas.{decided_possible, first_by}
use Rattle.ether_filter.proofs.possible.of_outer_vlan.Goals as goal

pub returns-then-told : goal.returns-then-told
returns-then-told c packet hs known room o fits a =
    decided_possible packet hs c.args.kind known room c.args.after
    (primitives.OuterVlan c.args.id) c.args.told
    c.decided.result o
    (first_by packet hs c.args.kind known room c.args.after c.args.id o (a.has_tag.0 c.if-told.true)) a refl
    c.decided.ensures.matches c.decided.ensures.fails

pub returns-then-is_vlan : goal.returns-then-is_vlan
returns-then-is_vlan c packet hs known room o fits a =
    own_outer_case packet hs c.args.kind known room c.args.after c.args.id c.args.own o
    (false_or (list_any is_tag hs) (λ t. (let clash : false ≡ true = sym c.if-told.false ∙ a.has_tag.1 t in cc)))
    (c.is_vlan.ensures.0 c.if-is_vlan.true)
    (own_fits (primitives.OuterVlan c.args.id) c.args.kind known c.args.own (c.is_vlan.ensures.0 c.if-is_vlan.true).0
    fits)

pub returns : goal.returns
returns c packet hs known room o fits a =
    other_outer_case packet hs c.args.kind known room c.args.after c.args.id c.can_have_id.result o
    (false_or (list_any is_tag hs) (λ t. (let clash : false ≡ true = sym c.if-told.false ∙ a.has_tag.1 t in cc)))
    (λ mine. (let clash : false ≡ true = sym c.if-is_vlan.false ∙ c.is_vlan.ensures.1 mine in cc))
    (reached c.args.id c.can_have_id.result c.tag_can_follow.result c.args.after 4 c.can_have_id.ensures
    c.tag_can_follow.ensures.condition)
