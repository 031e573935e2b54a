-- A walk that was gone a part of the way, and its end.
use Rattle.std.proofs.Common.{◌≡◌, ℕ, ◌+◌, ◌*◌, ◌<◌, List, [], ◌∷◌, length, false, refl, sym, ap, subst, ◌∙◌, arith}
use Rattle.std.specs.Prelude.{Option, Some, None, Ok, Err}
use Rattle.std.proofs.lemmas.List.{length-append}
use Rattle.etherparse.specs.Bytes.{IsBytes}
use Rattle.etherparse.specs.Header.{Header}
use Rattle.etherparse.proofs.SubLists.{part_all}
use Rattle.ether_peel.specs.Grammar.Window.{within}
use Rattle.ether_peel.specs.Grammar.Expectation.{Next, Expectation}
use Rattle.ether_peel.specs.Grammar.Stack.{Ending, whole, Walk}
use Rattle.ether_peel.specs.Walker.State.{State}
use Rattle.ether_peel.specs.Walker.Start.{next_shown, kind_shown}
use Rattle.ether_peel.specs.Walker.Next.{Faces, Gives}
use Rattle.ether_peel.specs.Walker.Summary.{IsSummary, summary_of, fault_of}
use Rattle.ether_peel.specs.declared.peel_unit.PeelUnit.{PeelUnit}
use Rattle.ether_peel.specs.declared.peel_fault.PeelFault.{PeelFault}
use Rattle.ether_peel.specs.declared.walk_summary.Summary.{Summary}
use Rattle.ether_peel.proofs.Grammar.Stacks.{some_stack, one_stack}
use Rattle.ether_peel.proofs.Grammar.Announced.{limited}
use Rattle.ether_peel.proofs.Walker.Limits.{SameEnd, leave_alone}
use Rattle.ether_peel.proofs.Walker.UnderWay.{UnderWay, under_way_first, passes, under_way_next, Stops, stops, no_none, no_fault, stop_finish, faults, accepts}
pub use Rattle.ether_peel.proofs.Walker.UnderWay.{UnitNext, unit_next, FaultNext, fault_next, NoneNext, none_next}
use Rattle.ether_peel.proofs.Grammar.Extensions.{extensions_keep}

-- ---- a part of the way

-- the walk of a list that has given so many units
pub record Walked (start : Expectation) (list : List ℕ) (s : State) (units : ℕ) : Type 0 where
  pub under_way : UnderWay start list s
  pub counted : units ≡ length under_way.done

pub walked_start : (start : Expectation) (list : List ℕ) (s : State) (hs : List Header) (e : Ending)
    → Walk start list hs e → Faces list (whole start list) s hs e → s.over ≡ false → Walked start list s 0
unfolding under_way_first
walked_start start list s hs e walk faces going =
    record { under_way = under_way_first start list s hs e walk faces going; counted = refl }

pub walked_unit : (start : Expectation) (list : List ℕ) (s t : State) (units : ℕ) (u : PeelUnit)
    → Walked start list s units → Gives s (Some (Ok u)) t → Walked start list t (units + 1)
unfolding under_way_next
walked_unit start list s t units u a gives =
    let way = a.under_way in
    let p = passes start list s t u way gives in
    let counted = a.counted in
    record {
      under_way = under_way_next start list s t u way p;
      counted = omega (arith, length-append way.done (p.header ∷ []));
    }

-- ---- the end

-- what a walker shows there
abbrev pub shown_summary : ℕ → State → Option PeelFault → Summary
shown_summary units t fault = record {
  units = units;
  rest_start = t.offset;
  rest_end = t.offset + length t.rest;
  kind = kind_shown t.expected;
  fault = fault;
}

pub summary_is : (start : Expectation) (list : List ℕ) (hs : List Header) (e : Ending) (found : Summary)
    → Walk start list hs e → found ≡ summary_of hs e → IsSummary start list found
summary_is start list hs e found walk is = record {
  headers = hs;
  ending = e;
  walk = walk;
  one = λ ks f other. one_stack list start (whole start list) ks hs f e other walk;
  is = is;
  extensions = λ open_end. extensions_keep start list hs e open_end walk;
}

-- .. of a walk that returns no more units
walked_end : (start : Expectation) (list : List ℕ) (s t : State) (units : ℕ) (fault : Option PeelFault)
    (a : Walked start list s units) → Stops start list s t a.under_way → fault ≡ fault_of a.under_way.ending
    → IsSummary start list (shown_summary units t fault)
walked_end start list s t units fault a end is =
    let way = a.under_way in
    let counted = a.counted in
    let at = end.offset in
    let to = stop_finish start list s t way end in
    let expects = end.expects in
    let shown : shown_summary units t fault ≡ summary_of way.done way.ending =
    λ i.
    record {
      units = counted i;
      rest_start = at i;
      rest_end = to i;
      kind = kind_shown (expects i);
      fault = is i;
    } in
    summary_is start list way.done way.ending _ end.walk shown

pub walked_fault : (start : Expectation) (list : List ℕ) (s t : State) (units : ℕ) (f : PeelFault)
    → Walked start list s units → Gives s (Some (Err f)) t → IsSummary start list (shown_summary units t (Some f))
walked_fault start list s t units f a gives =
    let n = faults start list s t f a.under_way gives in
    walked_end start list s t units (Some f) a (stops start list s t (Some (Err f)) a.under_way (no_fault f) gives)
    (ap Some n.fault ∙ ap fault_of (sym n.ending))

pub walked_none : (start : Expectation) (list : List ℕ) (s t : State) (units : ℕ) → Walked start list s units
    → Gives s None t → IsSummary start list (shown_summary units t None)
walked_none start list s t units a gives =
    walked_end start list s t units None a (stops start list s t None a.under_way no_none gives)
    (ap fault_of (sym (accepts start list s t a.under_way gives)))

-- ---- a limit on extensions that is never reached

same_summary : (hs : List Header) (e f : Ending) → SameEnd e f → summary_of hs f ≡ summary_of hs e
same_summary hs e f same =
    let window = same.window in
    let next = same.next in
    let fault = same.fault in
    λ i.
    record {
      units = length hs;
      rest_start = (window i).start;
      rest_end = (window i).finish;
      kind = next_shown (next i);
      fault = fault i;
    }

pub unlimited_summary : (next : Next) (list : List ℕ) (limit : ℕ) (found : Summary) → IsBytes list
    → length list < 4 * limit → IsSummary (limited next (Some limit)) list found
    → IsSummary (limited next None) list found
unlimited_summary next list limit found ok lt with_limit =
    let x = limited next None in
    let w = whole x list in
    let all = part_all list (length list) (omega arith) in
    let short : length (within list w) < 4 * limit = subst (λ (l : List ℕ). length l < 4 * limit) (sym all) lt in
    let walk = some_stack list x w ok in
    let alone = leave_alone list next limit w walk.0 walk.1 short walk.2 in
    let one = with_limit.one walk.0 alone.0 alone.1 in
    let same : summary_of with_limit.headers with_limit.ending ≡ summary_of walk.0 alone.0 =
    λ i. summary_of (sym one.0 i) (sym one.1 i) in
    summary_is x list walk.0 walk.1 found walk.2 (with_limit.is ∙ same ∙ same_summary walk.0 walk.1 alone.0 alone.2)
