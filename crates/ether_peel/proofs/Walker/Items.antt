-- All that a walker gives, one call after the other.
use Rattle.std.proofs.Common.{◌≡◌, ℕ, List, [], ◌∷◌, true, false, refl, ap, subst}
use Rattle.std.specs.Prelude.{Result, Ok, Err}
use Rattle.etherparse.specs.Header.{Header}
use Rattle.ether_peel.specs.Grammar.Window.{Window, within, payload}
use Rattle.ether_peel.specs.Grammar.Stack.{Ending, Accepted, Fault}
use Rattle.ether_peel.specs.Walker.State.{State}
use Rattle.ether_peel.specs.Walker.Fault.{fault_in}
use Rattle.ether_peel.specs.Walker.Next.{Faces, ShowsUnit, Yields, AreItems}
use Rattle.ether_peel.specs.Walker.Next as yields
use Rattle.ether_peel.specs.declared.peel_unit.PeelUnit.{PeelUnit}
use Rattle.ether_peel.specs.declared.peel_fault.PeelFault.{PeelFault}

-- after the fault nothing comes
nothing_more : (s : State) (items : List (Result PeelUnit PeelFault)) → s.over ≡ true → Yields s items → items ≡ []
nothing_more s items over (yields.nothing b t g) = refl
nothing_more s items over (yields.item b t first others g y) = let e = (g.over over).0 in cc

pub items_are : (list : List ℕ) (w : Window) (s : State) (hs : List Header) (e : Ending)
    (items : List (Result PeelUnit PeelFault))
    → s.over ≡ false → Faces list w s hs e → Yields s items → AreItems list w hs e items
items_are list w s [] (Accepted v y) items going f (yields.nothing b t g) = refl
items_are list w s [] (Accepted v y) items going f (yields.item b t first others g more) =
    let n = (g.next going list w [] (Accepted v y) f).0 in cc
items_are list w s [] (Fault v y r) items going f (yields.nothing b t g) =
    let n = (g.next going list w [] (Fault v y r) f).0 in cc
items_are list w s [] (Fault v y r) items going f (yields.item b t first others g more) =
    let n = g.next going list w [] (Fault v y r) f in
    let fault : first ≡ Err (fault_in w r) = let same = n.0 in cc in
    let none = nothing_more t others (ap (λ (z : State). z.over) n.1) more in
    λ i. fault i ∷ none i
items_are list w s (h ∷ hs) e items going f (yields.nothing b t g) =
    let n = (g.next going list w (h ∷ hs) e f).1 in cc
items_are list w s (h ∷ hs) e items going f (yields.item b t first others g more) =
    let n = g.next going list w (h ∷ hs) e f in
    let u = n.0 in
    let unit : first ≡ Ok u = let same = n.1 in cc in
    let after = n.5 in (
      u,
      others,
      ap (λ (x : Result PeelUnit PeelFault). x ∷ others) unit,
      subst (λ (l : List ℕ). ShowsUnit l (within list (payload w h)) h u) f.rest
          (subst (λ (l : List ℕ). ShowsUnit s.rest l h u) after.rest n.2),
      items_are list (payload w h) t hs e others n.3 after more,
    )
