-- The walk that looks for the values of a field.
use Rattle.std.proofs.Common.{◌≡◌, ℕ, List, [], ◌∷◌, ◌++◌, refl, sym, ap, ◌∙◌, Bool, false, ◌||◌}
use Rattle.std.specs.Prelude.{Option, Some, None, Ok, Err, is_some, unwrap_or}
use Rattle.std.proofs.Math.Bool.{or-false}
use Rattle.std.proofs.lemmas.List.Folds.{list_any-append}
use Rattle.etherparse.specs.Bytes.{IsBytes}
use Rattle.etherparse.specs.Header.{Header}
use Rattle.ether_peel.specs.Grammar.Stack.{Ending, whole, Walk}
use Rattle.ether_peel.specs.Walker.Start.{start_of}
use Rattle.ether_peel.specs.Walker.State.{State}
use Rattle.ether_peel.specs.Walker.Next.{begun, FacesWalk, Gives}
use Rattle.ether_peel.specs.Walker.UnitHeader.{unit_header}
use Rattle.ether_peel.specs.declared.start.Start.{Start as PeelStart}
use Rattle.ether_peel.specs.declared.peel_unit.PeelUnit.{PeelUnit}
use Rattle.ether_peel.proofs.Grammar.Stacks.{one_stack}
use Rattle.ether_peel.proofs.Walker.UnderWay.{UnderWay, under_way_first, passes, passes_header, under_way_next, stops, no_none, no_fault}
use Rattle.ether_peel.specs.declared.peel_fault.PeelFault.{PeelFault}
use Rattle.ether_filter.specs.declared.field_match.FieldFound.{FieldFound}
use Rattle.ether_filter.specs.declared.field_test.FieldTest.{FieldTest}
use Rattle.ether_filter.specs.FieldsFound.{found_after, found_in}
use Rattle.ether_filter.specs.FieldTests.{hit, has_value, has_hit, answer, field_holds}

-- a walk under way, with what its headers showed
pub record Looks (t : FieldTest) (start : PeelStart) (list : List ℕ) (s : State) (found : FieldFound) : Type 0 where
  pub way : UnderWay (start_of start) list s
  pub is : found ≡ found_in t way.done

pub looks_first : (t : FieldTest) (start : PeelStart) (list : List ℕ) (s : State) → s ≡ begun (start_of start) list
    → FacesWalk (start_of start) list s → Looks t start list s (record { has_value = false; has_hit = false })
unfolding under_way_first
looks_first t start list s is faces = record {
  way =
      under_way_first (start_of start) list s faces.headers faces.ending faces.walk faces.faces
      (ap (λ (k : State). k.over) is);
  is = refl;
}

-- what a further header shows
some_more : (t : FieldTest) (hs : List Header) (h : Header) → (has_value t hs || is_some (hit t h))
    ≡ has_value t (hs ++ h ∷ [])
some_more t hs h = sym (list_any-append (λ k. is_some (hit t k)) hs (h ∷ [])
    ∙ ap (λ b. has_value t hs || b) (or-false (is_some (hit t h))))

any_more : (t : FieldTest) (hs : List Header) (h : Header) → (has_hit t hs || unwrap_or (hit t h) false)
    ≡ has_hit t (hs ++ h ∷ [])
any_more t hs h = sym (list_any-append (λ k. unwrap_or (hit t k) false) hs (h ∷ [])
    ∙ ap (λ b. has_hit t hs || b) (or-false (unwrap_or (hit t h) false)))

found_more : (t : FieldTest) (hs : List Header) (h : Header) → found_after (found_in t hs) (hit t h)
    ≡ found_in t (hs ++ h ∷ [])
found_more t hs h = λ i. record { has_value = some_more t hs h i; has_hit = any_more t hs h i }

pub looks_next : (t : FieldTest) (start : PeelStart) (list : List ℕ) (s s2 : State) (u : PeelUnit) (o : Option Bool)
    (before after : FieldFound) → IsBytes list → Looks t start list s before → Gives s (Some (Ok u)) s2
    → o ≡ hit t (unit_header u) → after ≡ found_after before o → Looks t start list s2 after
unfolding under_way_next
looks_next t start list s s2 u o before after ok a gives is found =
    let x = start_of start in
    let way = a.way in
    let p = passes x list s s2 u way gives in
    let h = p.header in
    let same = passes_header x list s s2 u way p ok in
    let hits : o ≡ hit t h = is ∙ ap (hit t) same in
    record {
      way = under_way_next x list s s2 u way p;
      is = found ∙ (λ i. found_after (a.is i) (hits i)) ∙ found_more t way.done h;
    }

looks_end : (t : FieldTest) (start : PeelStart) (list : List ℕ) (s : State) (found : FieldFound) (result : Bool)
    (a : Looks t start list s found) → Walk (start_of start) list a.way.done a.way.ending
    → result ≡ answer t.relation found.has_value found.has_hit → (hs : List Header) (e : Ending)
    → Walk (start_of start) list hs e → result ≡ field_holds t hs
looks_end t start list s found result a done is hs e walk =
    let x = start_of start in
    let one = one_stack list x (whole x list) hs a.way.done e a.way.ending walk done in
    is ∙ ap (λ (f : FieldFound). answer t.relation f.has_value f.has_hit) a.is ∙ sym (ap (field_holds t) one.0)

pub looks_fault : (t : FieldTest) (start : PeelStart) (list : List ℕ) (s s2 : State) (f : PeelFault)
    (found : FieldFound) (result : Bool) → Looks t start list s found → Gives s (Some (Err f)) s2
    → result ≡ answer t.relation found.has_value found.has_hit → (hs : List Header) (e : Ending)
    → Walk (start_of start) list hs e → result ≡ field_holds t hs
looks_fault t start list s s2 f found result a gives is hs e walk =
    let end = stops (start_of start) list s s2 (Some (Err f)) a.way (no_fault f) gives in
    looks_end t start list s found result a end.walk is hs e walk

pub looks_none : (t : FieldTest) (start : PeelStart) (list : List ℕ) (s s2 : State) (found : FieldFound)
    (result : Bool) → Looks t start list s found → Gives s None s2
    → result ≡ answer t.relation found.has_value found.has_hit → (hs : List Header) (e : Ending)
    → Walk (start_of start) list hs e → result ≡ field_holds t hs
looks_none t start list s s2 found result a gives is hs e walk =
    let end = stops (start_of start) list s s2 None a.way no_none gives in
    looks_end t start list s found result a end.walk is hs e walk
