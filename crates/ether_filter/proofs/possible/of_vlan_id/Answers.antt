use Rattle.std.proofs.Common.{◌≡◌, refl, sym, ◌∙◌, true, false}
use Rattle.ether_filter.specs.declared.primitive.Primitive.TheVariants as primitives
use Rattle.ether_filter.proofs.PossibleCases.{reached, own_fits, own_id_case, other_id_case}
use Rattle.ether_filter.proofs.PossibleTags.{id_by}
use Rattle.ether_filter.proofs.ToldLemmas.{told_possible}
use Rattle.ether_filter.proofs.possible.of_vlan_id.Goals as goal

pub returns-then-told : goal.returns-then-told
returns-then-told c packet hs known room o fits a =
    told_possible packet hs c.args.kind known room c.args.after (primitives.VlanId c.args.id) _ _ c.args.told
    c.decided.result o (id_by packet hs c.args.kind known room c.args.after c.args.id o) a refl
    c.if-told.true c.decided.ensures.matches c.decided.ensures.fails

pub returns-then-is_vlan : goal.returns-then-is_vlan
returns-then-is_vlan c packet hs known room o fits a =
    own_id_case packet hs c.args.kind known room c.args.after c.args.id c.args.told c.args.own
    c.or.result c.can_have_id-later.result o a c.if-told.false
    (c.is_vlan.ensures.0 c.if-is_vlan.true)
    (own_fits (primitives.VlanId c.args.id) c.args.kind known c.args.own (c.is_vlan.ensures.0 c.if-is_vlan.true).0 fits)
    (reached c.args.id c.can_have_id-later.result c.tag_can_follow.result c.args.after 4 c.can_have_id-later.ensures
    c.tag_can_follow.ensures.condition)
    c.or.ensures.matches c.or.ensures.fails

pub returns : goal.returns
returns c packet hs known room o fits a =
    other_id_case packet hs c.args.kind known room c.args.after c.args.id c.args.told
    c.can_have_id-later.result o a c.if-told.false
    (λ mine. (let clash : false ≡ true = sym c.if-is_vlan.false ∙ c.is_vlan.ensures.1 mine in cc))
    (reached c.args.id c.can_have_id-later.result c.tag_can_follow.result c.args.after 4 c.can_have_id-later.ensures
    c.tag_can_follow.ensures.condition)
