use Rattle.std.proofs.Common.{sym, subst, inl, inr}
use Rattle.ether_filter.specs.declared.primitive.Primitive.{Primitive}
use Rattle.ether_filter.specs.OwnFields.{FitsTag}
use Rattle.ether_filter.proofs.own_fields.of_tag.Goals as goal

pub returns-in-VlanId : goal.returns-in-VlanId
returns-in-VlanId c = elim c.in-VlanId.is [
  | inl is ↦ subst (λ (q : Primitive). FitsTag q c.args.known.now c.can_be_id.result) (sym is) c.can_be_id.ensures
  | inr (inl is) ↦ subst (λ (q : Primitive). FitsTag q c.args.known.now c.can_be_id.result) (sym is) c.can_be_id.ensures
  | inr (inr is) ↦ subst (λ (q : Primitive). FitsTag q c.args.known.now c.can_be_id.result) (sym is) c.can_be_id.ensures
]
