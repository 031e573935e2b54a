-- The demands of a list: which there are above a front, by what the front's walk names.
use Rattle.std.proofs.Common.{◌≡◌, ℕ, ◌+◌, ◌-◌, ◌<◌, ◌≤◌, List, [], ◌∷◌, ◌++◌, length, take, drop, refl, sym, ap, subst, ◌∙◌, arith, inl, inr, ◌⊎◌, Bool, true, false}
use Rattle.std.specs.Prelude.{Some, None}
use Rattle.std.proofs.lemmas.Bool.{cases_lt}
use Rattle.std.proofs.lemmas.List.{take-take, take-append-drop, length-take, length-append}
use Rattle.etherparse.specs.Types.LenSource.{LenSource}
use Rattle.etherparse.specs.Types.Layer.{Layer}
use Rattle.etherparse.specs.Bytes.{IsBytes}
use Rattle.etherparse.specs.Header.{Header, unit_len}
use Rattle.etherparse.specs.Refusal.{Length, UnsupportedPacketType, UnsupportedHardwareType, UnexpectedVersion, InvalidShortLen}
use Rattle.etherparse.proofs.SubLists.{length-part, IsBytes-take}
use Rattle.ether_peel.specs.Grammar.Window.{Window}
use Rattle.ether_peel.specs.Grammar.Expectation.{Expectation, has_fcs}
use Rattle.ether_peel.specs.Grammar.Stack.{Ending, Accepted, Fault, last_window, whole, Walk}
use Rattle.ether_peel.specs.Grammar.Places.{place}
use Rattle.ether_peel.specs.Grammar.Endings.{refusal_of, OpenRefusal, named_len}
use Rattle.ether_peel.specs.Grammar.Cuts.{reach}
use Rattle.ether_peel.specs.Grammar.Extensions.{KeepsExtension}
use Rattle.ether_peel.specs.Grammar.Demands.{IsDemand, AreDemands, TakesUnits}
use Rattle.ether_peel.proofs.Grammar.Stacks.{some_stack}
use Rattle.ether_peel.proofs.Grammar.Carrying.{leads}
use Rattle.ether_peel.proofs.Grammar.Extensions.{refusal_below, walk_open_to_end, extensions_keep, fcs_is_closed}
use Rattle.ether_peel.proofs.Grammar.Cuts.{reach_least, cuts_keep}

-- ---- open refusals

one_required : (a b la lb : ℕ) (sa sb : LenSource) (ya yb : Layer) → Some (Length a la sa ya) ≡ Some (Length b lb sb yb)
    → a ≡ b
one_required a b la lb sa sb ya yb e = cc

-- an ending names one length
pub named_once : (e : Ending) (o p : OpenRefusal e) → named_len e o ≡ named_len e p
named_once e o p =
    let same =
    one_required o.required p.required o.len p.len o.source p.source o.layer p.layer (sym o.refused ∙ p.refused) in
    omega arith

not_open : (c : Bool) → (c ≡ false → ⊥) → c ≡ true
not_open true k = refl
not_open false k = absurd (k refl)

open_in : (v : Window) (y : Expectation) (required len : ℕ) (source : LenSource) (layer : Layer) (c : Bool)
    → v.closed ≡ c
    → OpenRefusal (Fault v y (Length required len source layer))
    ⊎ (OpenRefusal (Fault v y (Length required len source layer)) → ⊥)
open_in v y required len source layer true e = inr (λ o. let f : true ≡ false = sym e ∙ o.is_open in cc)
open_in v y required len source layer false e =
    inl (record { required = required; len = len; source = source; layer = layer; refused = refl; is_open = e })

-- whether an ending is an open refusal
pub open_or_not : (e : Ending) → OpenRefusal e ⊎ (OpenRefusal e → ⊥)
open_or_not (Accepted v y) = inr (λ o. let e = o.refused in cc)
open_or_not (Fault v y (Length required len source layer)) = open_in v y required len source layer v.closed refl
open_or_not (Fault v y (UnsupportedPacketType p)) = inr (λ o. let e = o.refused in cc)
open_or_not (Fault v y (UnsupportedHardwareType n)) = inr (λ o. let e = o.refused in cc)
open_or_not (Fault v y UnexpectedVersion) = inr (λ o. let e = o.refused in cc)
open_or_not (Fault v y InvalidShortLen) = inr (λ o. let e = o.refused in cc)

-- the length that it names is not there
pub named_above : (start : Expectation) (list : List ℕ) (hs : List Header) (e : Ending) (o : OpenRefusal e)
    → has_fcs start ≡ false → Walk start list hs e → length list < named_len e o
named_above start list hs e o h s =
    let v = last_window e in
    let end = (leads list start (whole start list) hs e s).1 in
    let few = refusal_below list e (Length o.required o.len o.source o.layer) end o.refused in
    let g = walk_open_to_end start list hs e h s in
    let finish = g.ends o.is_open in
    let at = g.is_in.ordered in
    let part = length-part list v.start v.finish g.is_in.inside in
    omega arith

-- ---- frame check sequences

pub fcs_asks_nothing : (start : Expectation) (list : List ℕ) (above : ℕ) (ms : List ℕ) → has_fcs start ≡ true
    → AreDemands start list above ms → ms ≡ []
fcs_asks_nothing start list above [] h are = refl
fcs_asks_nothing start list above (m ∷ ms) h are =
    let d = are.1 in absurd (fcs_is_closed start (take (m - 1) list) d.headers d.ending h d.walk d.refusal)

-- ---- longer fronts

pub front_and_more : (list : List ℕ) (n j : ℕ) → n ≤ j → take j list ≡ take n list ++ drop n (take j list)
front_and_more list n j le =
    sym (take-append-drop n (take j list)) ∙ ap (λ (l : List ℕ). l ++ drop n (take j list)) (take-take n j list le)

front_keeps : (start : Expectation) (list : List ℕ) (n j : ℕ) (hs ks : List Header) (e f : Ending)
    → has_fcs start ≡ false → n ≤ j → Walk start (take n list) hs e → Walk start (take j list) ks f
    → KeepsExtension hs e (length (take j list)) (length (drop n (take j list))) ks f
front_keeps start list n j hs ks e f h le s t =
    let parts = front_and_more list n j le in
    let k =
    extensions_keep start (take n list) hs e h s (drop n (take j list)) ks f
    (subst (λ (l : List ℕ). Walk start l ks f) parts t) in
    subst (λ (l : List ℕ). KeepsExtension hs e (length l) (length (drop n (take j list))) ks f) (sym parts) k

-- ---- the demands above a front

-- there is none below the length that its walk names
pub none_between : (start : Expectation) (list : List ℕ) (n : ℕ) (hs : List Header) (e : Ending) (o : OpenRefusal e)
    → has_fcs start ≡ false → Walk start (take n list) hs e → (k : ℕ) → n < k → k < named_len e o
    → IsDemand start list k → ⊥
none_between start list n hs e o h s k lt below d =
    let positive = d.positive in
    let inside = d.inside in
    let keeps = front_keeps start list n (k - 1) hs d.headers e d.ending h (omega arith) s d.walk in
    let waits = keeps.waiting o (omega (arith, length-take (k - 1) list)) in
    let same =
    one_required d.refusal.required o.required d.refusal.len (o.len + length (drop n (take (k - 1) list)))
    d.refusal.source o.source d.refusal.layer o.layer (sym d.refusal.refused ∙ waits.1) in
    let at = waits.0.start in
    let names = d.names in
    omega arith

-- that length is one
pub is_demand : (start : Expectation) (list : List ℕ) (n : ℕ) (hs : List Header) (e : Ending) (o : OpenRefusal e)
    → IsBytes list → has_fcs start ≡ false → Walk start (take n list) hs e → n < named_len e o
    → named_len e o ≤ length list → IsDemand start list (named_len e o)
is_demand start list n hs e o ok h s above inside =
    let m = named_len e o in
    let front = take (m - 1) list in
    let next = some_stack front start (whole start front) (IsBytes-take (m - 1) list ok) in
    let keeps = front_keeps start list n (m - 1) hs next.0 e next.1 h (omega arith) s next.2 in
    let waits = keeps.waiting o (omega (arith, length-take (m - 1) list)) in
    let at = waits.0.start in
    record {
      positive = omega arith;
      inside = inside;
      headers = next.0;
      ending = next.1;
      walk = next.2;
      refusal =
          record {
            required = o.required;
            len = o.len + length (drop n (take (m - 1) list));
            source = o.source;
            layer = o.layer;
            refused = waits.1;
            is_open = waits.0.closed ∙ o.is_open;
          };
      names = omega arith;
    }

-- there is none if its walk names no length
pub none_above : (start : Expectation) (list : List ℕ) (n : ℕ) (hs : List Header) (e : Ending) → has_fcs start ≡ false
    → Walk start (take n list) hs e → (OpenRefusal e → ⊥) → (k : ℕ) → n < k → IsDemand start list k → ⊥
none_above start list n hs (Accepted v y) h s quiet k lt d =
    let keeps = front_keeps start list n (k - 1) hs d.headers (Accepted v y) d.ending h (omega arith) s d.walk in
    let e = sym d.refusal.refused ∙ (keeps.accepted refl).1 in
    cc
none_above start list n hs (Fault v y (Length required len source layer)) h s quiet k lt d =
    let r = Length required len source layer in
    let keeps = front_keeps start list n (k - 1) hs d.headers (Fault v y r) d.ending h (omega arith) s d.walk in
    let closed =
    not_open v.closed
    (λ e.
    quiet
    (record {
      required = required;
      len = len;
      source = source;
      layer = layer;
      refused = refl;
      is_open = e;
    })) in
    let alike = (keeps.settled r refl (inr closed)).0 in
    let e : true ≡ false = sym (alike.closed ∙ closed) ∙ d.refusal.is_open in
    cc
none_above start list n hs (Fault v y (UnsupportedPacketType p)) h s quiet k lt d =
    let keeps =
    front_keeps start list n (k - 1) hs d.headers (Fault v y (UnsupportedPacketType p)) d.ending h (omega arith)
    s d.walk in
    let e = sym d.refusal.refused ∙ (keeps.settled (UnsupportedPacketType p) refl (inl tt)).1 in
    cc
none_above start list n hs (Fault v y (UnsupportedHardwareType t)) h s quiet k lt d =
    let keeps =
    front_keeps start list n (k - 1) hs d.headers (Fault v y (UnsupportedHardwareType t)) d.ending h
    (omega arith) s d.walk in
    let e = sym d.refusal.refused ∙ (keeps.settled (UnsupportedHardwareType t) refl (inl tt)).1 in
    cc
none_above start list n hs (Fault v y UnexpectedVersion) h s quiet k lt d =
    let keeps =
    front_keeps start list n (k - 1) hs d.headers (Fault v y UnexpectedVersion) d.ending h (omega arith) s d.walk in
    let e = sym d.refusal.refused ∙ (keeps.settled UnexpectedVersion refl (inl tt)).1 in
    cc
none_above start list n hs (Fault v y InvalidShortLen) h s quiet k lt d =
    let keeps =
    front_keeps start list n (k - 1) hs d.headers (Fault v y InvalidShortLen) d.ending h (omega arith) s d.walk in
    let e = sym d.refusal.refused ∙ (keeps.settled InvalidShortLen refl (inl tt)).1 in
    cc

-- it names no length, or one that the list does not have
abbrev pub AsksNoMore : List ℕ → Ending → Type 0
AsksNoMore list e = (o : OpenRefusal e) → named_len e o ≤ length list → ⊥

no_more_from : (start : Expectation) (list : List ℕ) (n : ℕ) (hs : List Header) (e : Ending) (c : Bool)
    → has_fcs start ≡ c → Walk start (take n list) hs e → AsksNoMore list e → AreDemands start list n []
no_more_from start list n hs e true h s ask k lt d =
    fcs_is_closed start (take (k - 1) list) d.headers d.ending h d.walk d.refusal
no_more_from start list n hs e false h s ask k lt d =
    elim (open_or_not e) [
      | inl o ↦
          let inside = d.inside in
          elim (cases_lt (length list) (named_len e o)) [
            | inl past ↦ none_between start list n hs e o h s k lt (omega arith) d
            | inr le ↦ ask o le
          ]
      | inr quiet ↦ none_above start list n hs e h s quiet k lt d
    ]

-- so there is none
pub no_more : (start : Expectation) (list : List ℕ) (n : ℕ) (hs : List Header) (e : Ending)
    → Walk start (take n list) hs e → AsksNoMore list e → AreDemands start list n []
no_more start list n hs e s ask = no_more_from start list n hs e (has_fcs start) refl s ask

-- ---- of an accepted list

-- a demand is within the reach of its units
demand_in_reach : (start : Expectation) (list : List ℕ) (hs : List Header) (e : Ending) (m : ℕ) → IsBytes list
    → has_fcs start ≡ false → Walk start list hs e → refusal_of e ≡ None → IsDemand start list m → m ≤ reach 0 hs
demand_in_reach start list hs e m ok h s a d =
    let positive = d.positive in
    let inside = d.inside in
    elim (cases_lt (m - 1) (reach 0 hs)) [
      | inl lt ↦ omega arith
      | inr le ↦
          let keeps = cuts_keep start list hs e ok h s (m - 1) d.headers d.ending (omega arith) d.walk in
          let f = sym d.refusal.refused ∙ (keeps.whole_units a le).1 in
          absurd cc
    ]

abbrev pub IsAsked : Expectation → List ℕ → ℕ → Type 0
IsAsked start list n = (n ≡ 0) ⊎ IsDemand start list n

asked_in_reach : (start : Expectation) (list : List ℕ) (hs : List Header) (e : Ending) (n : ℕ) → IsBytes list
    → has_fcs start ≡ false → Walk start list hs e → refusal_of e ≡ None → IsAsked start list n → n ≤ reach 0 hs
asked_in_reach start list hs e n ok h s a (inl zero) = omega arith
asked_in_reach start list hs e n ok h s a (inr d) = demand_in_reach start list hs e n ok h s a d

-- a front that asks for no more reaches as far
reach_in_front : (start : Expectation) (list : List ℕ) (hs ks : List Header) (e f : Ending) (n : ℕ) → IsBytes list
    → has_fcs start ≡ false → Walk start list hs e → refusal_of e ≡ None → n ≤ length list
    → Walk start (take n list) ks f → AsksNoMore list f → reach 0 hs ≤ n
reach_in_front start list hs ks e f n ok h s a inside t ask =
    elim (cases_lt n (reach 0 hs)) [
      | inr le ↦ le
      | inl lt ↦
          let keeps = cuts_keep start list hs e ok h s n ks f inside t in
          let unit = keeps.in_unit a lt in
          let r : place 0 ks + unit_len unit.unit ≤ reach 0 hs =
          subst (λ (l : List Header). place 0 ks + unit_len unit.unit ≤ reach 0 l) (sym unit.units)
          (reach_least 0 ks unit.later unit.unit) in
          let all = (walk_open_to_end start list hs e h s).reaches in
          let most = unit.at_most in
          absurd (ask unit.refusal (omega arith))
    ]

pub takes_units : (start : Expectation) (list : List ℕ) (hs ks : List Header) (e f : Ending) (n : ℕ) → IsBytes list
    → has_fcs start ≡ false → Walk start list hs e → refusal_of e ≡ None → n ≤ length list → IsAsked start list n
    → Walk start (take n list) ks f → AsksNoMore list f
    → TakesUnits start list hs n ks f
takes_units start list hs ks e f n ok h s a inside asked t ask =
    let most = asked_in_reach start list hs e n ok h s a asked in
    let least = reach_in_front start list hs ks e f n ok h s a inside t ask in
    let whole_units = (cuts_keep start list hs e ok h s n ks f inside t).whole_units a least in
    record {
      reaches = omega arith;
      all = whole_units.0.headers;
      accepted = whole_units.1;
      least = λ k gs g lt u.
          let unit = (cuts_keep start list hs e ok h s k gs g (omega arith) u).in_unit a (omega arith) in
          let len : length hs ≡ length (gs ++ unit.unit ∷ unit.later) = ap length unit.units in
          omega (arith, length-append gs (unit.unit ∷ unit.later));
    }
