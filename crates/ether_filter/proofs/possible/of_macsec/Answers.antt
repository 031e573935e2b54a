use Rattle.std.proofs.Common.{◌≡◌, refl, sym, ◌∙◌, inl, inr, true, false}
use Rattle.ether_filter.specs.declared.primitive.Primitive.TheVariants as primitives
use Rattle.ether_filter.proofs.PossibleLemmas.{macsec_by}
use Rattle.ether_filter.proofs.ToldLemmas.{told_possible, open_possible}
use Rattle.ether_filter.proofs.possible.of_macsec.Goals as goal

pub returns-then-told : goal.returns-then-told
returns-then-told c packet hs known room o a =
    told_possible packet hs c.args.kind known room c.args.after primitives.Macsec _ _ c.args.told c.decided.result o
    (macsec_by packet hs c.args.kind known room c.args.after o) a refl c.if-told.true c.decided.ensures.matches
    c.decided.ensures.fails

pub returns-then-is_macsec : goal.returns-then-is_macsec
returns-then-is_macsec c packet hs known room o a =
    let own = sym c.is_macsec.ensures ∙ c.if-is_macsec.true in
    open_possible packet hs c.args.kind known room c.args.after primitives.Macsec _ _ c.args.told _ o
    (macsec_by packet hs c.args.kind known room c.args.after o) a refl c.if-told.false
    (λ t. (t, inl own), λ it. it.0) (λ t it. t, λ f. f own)

pub returns : goal.returns
returns c packet hs known room o a =
    let other = sym c.is_macsec.ensures ∙ c.if-is_macsec.false in
    let some = c.sec_tag_can_follow.ensures.condition in
    open_possible packet hs c.args.kind known room c.args.after primitives.Macsec _ _ c.args.told _ o
    (macsec_by packet hs c.args.kind known room c.args.after o) a refl c.if-told.false (
      λ t. (let x = some.0 t in (x.0, inr x.1)),
      λ it. elim it.1 [
        | inl own ↦ absurd (let clash : true ≡ false = sym own ∙ other in cc)
        | inr x ↦ some.1 (it.0, x)
      ],
    ) (λ t own. absurd (let clash : true ≡ false = sym own ∙ other in cc), λ f. refl)
