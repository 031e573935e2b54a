-- How far the headers of a walk reach, header by header.
use Rattle.std.proofs.Common.{◌≡◌, ℕ, ◌+◌, ◌-◌, ◌≤◌, List, ◌++◌, length, arith, refl, sym, ap, subst, ◌∙◌, rules}
use Rattle.std.specs.Prelude.{Option, Some, None, Result, Ok, max, is_some, unwrap_or, option_map, slice_range, if◌then◌else◌}
use Rattle.etherparse.specs.Bytes.{IsBytes}
use Rattle.etherparse.specs.Header.{Header, header_len, payload_len, trailer_len}
use Rattle.etherparse.proofs.SubLists.{length-part}
use Rattle.ether_peel.specs.Grammar.Window.{Window, payload}
use Rattle.ether_peel.specs.Grammar.Cuts.{reach}
use Rattle.ether_peel.specs.Grammar.Expectation.{Expectation}
use Rattle.ether_peel.specs.Grammar.Stack.{Ending, Walk}
use Rattle.ether_peel.specs.Walker.State.{State}
use Rattle.ether_peel.specs.Walker.Next.{begun, Faces, FacesWalk, Gives}
use Rattle.ether_peel.specs.Walker.UnitHeader.{unit_header}
use Rattle.ether_peel.specs.declared.peel_unit.PeelUnit.{PeelUnit}
use Rattle.ether_peel.specs.declared.peel_fault.PeelFault.{PeelFault}
use Rattle.ether_peel.proofs.Walker.UnderWay.{UnderWay, under_way_first, passes, passes_header, passed_headers, under_way_next, only, stops, NoUnit}

-- a walk under way: the headers that it has returned reach this far, and with the others as far as all do
pub record Reached (start : Expectation) (list : List ℕ) (s : State) (len : ℕ) : Type 0 where
  pub way : UnderWay start list s
  pub rest : max len (reach s.offset way.left) ≡ reach 0 (way.done ++ way.left)
  pub inside : len ≤ length list

pub reached_first : (start : Expectation) (list : List ℕ) (s : State) → s ≡ begun start list → FacesWalk start list s
    → Reached start list s 0
unfolding under_way_first
reached_first start list s is w = record {
  way =
      under_way_first start list s w.headers w.ending w.walk w.faces (ap (λ (k : State). k.over) is);
  rest = omega (arith, ap (λ (k : State). reach k.offset w.headers) is);
  inside = omega arith;
}

-- where a unit ends, by the state after it
abbrev pub end_after : State → PeelUnit → ℕ
end_after t u = t.offset + (if is_some (payload_len (unit_header u)) then length t.rest else 0)

-- how long a payload is, in its window
payload_named : (list : List ℕ) (start finish : ℕ) (o : Option ℕ) (rest : List ℕ) → finish ≤ length list
    → rest ≡ slice_range list start (unwrap_or (option_map (λ n. start + n) o) finish)
    → unwrap_or (option_map (λ n. start + n) o) finish ≤ length list
    → (if is_some o then length rest else 0) ≡ unwrap_or o 0
payload_named list start finish None rest le is inside = refl
payload_named list start finish (Some n) rest le is inside = search (rules, length-part)

-- where a unit ends, in the list
ends_inside : (list : List ℕ) (w : Window) (t : State) (hs : List Header) (e : Ending) (o : Option ℕ)
    → Faces list w t hs e
    → t.offset + (if is_some o then length t.rest else 0) ≤ length list
ends_inside list w t hs e None faces = search rules
ends_inside list w t hs e (Some n) faces = search (rules, length-part)

pub reached_unit : (start : Expectation) (list : List ℕ) (s t : State) (len : ℕ) (u : PeelUnit) → IsBytes list
    → Reached start list s len → Gives s (Some (Ok u)) t → Reached start list t (max (end_after t u) len)
unfolding under_way_next
reached_unit start list s t len u ok r gives =
    let way = r.way in
    let w = way.window in
    let p = passes start list s t u way gives in
    let h = p.header in
    let same = passes_header start list s t u way p ok in
    let faces = subst (λ (l : List Header). Faces list w s l way.ending) p.parts way.faces in
    let named = payload_named list (payload w h).start (w.finish - trailer_len h) (payload_len h) t.rest
    (let i = faces.inside.inside in omega arith) p.faces.rest p.faces.inside.inside in
    let place : t.offset ≡ s.offset + header_len h =
    p.faces.offset ∙ ap (λ n. n + header_len h) (sym faces.offset) in
    let ends : end_after t u ≡ s.offset + header_len h + unwrap_or (payload_len h) 0 =
    rw same (λ i. place i + named i) in
    let inside = ends_inside list (payload w h) t p.later way.ending (payload_len (unit_header u)) p.faces in
    let before = subst (λ (l : List Header). max len (reach s.offset l) ≡ reach 0 (way.done ++ way.left)) p.parts
    r.rest in
    let later = ap (λ n. reach n p.later) place in
    let all = ap (reach 0) (passed_headers start list s t u way p) in
    let most = r.inside in
    record {
      way = under_way_next start list s t u way p;
      rest = omega (arith, before, later, all, ends);
      inside = omega (arith, inside, most);
    }

-- no unit is returned
pub reached_end : (start : Expectation) (list : List ℕ) (s t : State) (o : Option (Result PeelUnit PeelFault)) (len : ℕ)
    (hs : List Header) (e : Ending) → NoUnit o → Reached start list s len → Gives s o t → Walk start list hs e
    → len ≡ reach 0 hs
reached_end start list s t o len hs e none r gives walk =
    let way = r.way in
    let end = stops start list s t o way none gives in
    let last = subst (λ (l : List Header). max len (reach s.offset l) ≡ reach 0 (way.done ++ way.left)) end.none_left
    r.rest in
    let all = ap (reach 0) (only start list s way hs e walk).0 in
    omega (arith, last, all)
