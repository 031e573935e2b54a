use Rattle.std.proofs.Common.{◌≡◌, refl, sym, ◌∙◌, inl, inr, true, false, IsTrue}
use Rattle.ether_filter.specs.declared.primitive.Primitive.TheVariants as primitives
use Rattle.ether_filter.specs.Possible.{is_vlan}
use Rattle.ether_filter.proofs.PossibleLemmas.{vlan_by}
use Rattle.ether_filter.proofs.ToldLemmas.{told_possible, open_possible}
use Rattle.ether_filter.proofs.possible.of_vlan.Goals as goal

pub returns-then-told : goal.returns-then-told
returns-then-told c packet hs known room o a =
    told_possible packet hs c.args.kind known room c.args.after primitives.Vlan _ _ c.args.told c.decided.result o
    (vlan_by packet hs c.args.kind known room c.args.after o) a refl c.if-told.true c.decided.ensures.matches
    c.decided.ensures.fails

pub returns-then-is_vlan : goal.returns-then-is_vlan
returns-then-is_vlan c packet hs known room o a =
    let mine = (c.is_vlan.ensures.0 c.if-is_vlan.true) in
    open_possible packet hs c.args.kind known room c.args.after primitives.Vlan _ _ c.args.told
    c.decided-then-is_vlan.result o (vlan_by packet hs c.args.kind known room c.args.after o) a refl c.if-told.false
    (λ t. (mine.1, inl mine.0), λ it. c.decided-then-is_vlan.ensures.matches) (
      λ t. absurd (let clash : false ≡ true = sym c.decided-then-is_vlan.ensures.fails ∙ t in cc),
      λ f. absurd (f mine.0 mine.1),
    )

pub returns : goal.returns
returns c packet hs known room o a =
    let never : (is_vlan c.args.kind ≡ true) × IsTrue c.args.after.can_be_accepted → ⊥ =
    λ mine. (let clash : false ≡ true = sym c.if-is_vlan.false ∙ c.is_vlan.ensures.1 mine in cc) in
    let some = c.tag_can_follow.ensures.condition in
    open_possible packet hs c.args.kind known room c.args.after primitives.Vlan _ _ c.args.told _ o
    (vlan_by packet hs c.args.kind known room c.args.after o) a refl c.if-told.false (
      λ t. (let x = some.0 t in (x.0, inr x.1)),
      λ it. elim it.1 [ inl x ↦ absurd (never (x, it.0)) | inr x ↦ some.1 (it.0, x) ],
    ) (λ t vlan accepts. never (vlan, accepts), λ f. refl)
