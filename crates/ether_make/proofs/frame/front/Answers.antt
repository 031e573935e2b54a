use Rattle.std.proofs.Common.{◌≡◌, ℕ, List, map, Option, option_map, Vec, Global, Bor, ap, sym, subst, ◌∙◌}
use Rattle.serde_json.specs.View.{view}
use Rattle.serde_json.specs.declared.value.Value.{Value}
use Rattle.ether_make.specs.Frames.{front, front_of}
use Rattle.ether_make.specs.Refusals.{Meaning, Tells}
use Rattle.ether_make.proofs.FrameLemmas.{front-array}
use Rattle.ether_make.proofs.frame.front.Goals as goal

pub returns : goal.returns
returns c =
    let e : front (option_map (λ v. view v.now) c.args.headers) ≡ front_of (map view c.as_slice.result.now) =
    ap (λ (h : Option (Bor Value)). front (option_map (λ v. view v.now) h)) c.in-Some.is
    ∙ front-array (view c.in-Some.headers.now) c.in-Some-as_array.objects.now.items c.in-Some-as_array.ensures
    ∙ ap (λ (vs : List Value). front_of (map view vs)) (sym c.as_slice.ensures.value) in
    subst (λ (m : Meaning (List ℕ)). Tells (λ (v : Vec ℕ Global). v.items) m c.front_of.result)
    (sym e) c.front_of.ensures
