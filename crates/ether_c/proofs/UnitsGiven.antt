-- The units of a walk that is under way, in an array.
use Rattle.std.proofs.Common.{◌≡◌, ℕ, ◌+◌, ◌-◌, ◌<◌, ◌≤◌, suc, List, [], ◌∷◌, ◌++◌, length, take, drop, set, false, refl, sym, ap, ◌∙◌, arith, rules}
use Rattle.std.specs.Prelude.{Option, Some, Result, Ok}
use Rattle.std.proofs.Math.Seq.{take-nil, set_out, set-append_seam}
use Rattle.std.proofs.lemmas.List.{append_assoc, append-nil, length-append, drop-drop, take_all, drop_all, take-append-le, length-take-le, length-drop}
use Rattle.std.proofs.lemmas.Bool.{cases_lt}
use Rattle.etherparse.specs.Bytes.{IsBytes}
use Rattle.etherparse.specs.Header.{Header, header_len}
use Rattle.etherparse.proofs.SubLists.{length-part}
use Rattle.ether_peel.specs.Grammar.Window.{Window, payload}
use Rattle.ether_peel.specs.Grammar.Expectation.{Expectation}
use Rattle.ether_peel.specs.Grammar.Stack.{Ending, whole, Walk}
use Rattle.ether_peel.specs.Walker.State.{State}
use Rattle.ether_peel.specs.Walker.Next.{Faces, Gives}
use Rattle.ether_peel.specs.declared.peel_unit.PeelUnit.{PeelUnit}
use Rattle.ether_peel.specs.declared.peel_fault.PeelFault.{PeelFault}
use Rattle.ether_peel.proofs.Walker.UnderWay.{UnderWay, under_way_first, Passes, passes, passes_header, passed_headers, under_way_next, only, NoUnit, stops}
use Rattle.ether_c.specs.declared.ether_unit.EtherUnit.{EtherUnit}
use Rattle.ether_c.specs.Units.{c_unit, c_units}
use Rattle.ether_peel.specs.Walker.UnitHeader.{unit_header}
use Rattle.ether_c.specs.Views.{c_placed, c_view}
use Rattle.ether_c.specs.Walk.{GivesUnits}

-- ---- an array that is filled from its front on

pub put_at : {X : Type 0} (front rest : List X) (u : X) → 0 < length rest → set (front ++ rest) (length front) u
    ≡ front ++ u ∷ drop 1 rest
put_at front [] u lt = absurd (omega (arith, lt))
put_at front (y ∷ ys) u lt = set-append_seam front y ys u

-- the array holds a front of a list as far as it has room, and after so many places what it held before
abbrev pub Holds : {X : Type 0} → (front old new : List X) → (count : ℕ) → Type 0
Holds front old new count = new ≡ take (length old) front ++ drop count old

filled : {X : Type 0} (front old mid : List X) (u : X) (count : ℕ) → count ≡ length front → count < length old
    → Holds front old mid count
    → Holds (front ++ u ∷ []) old (set mid count u) (count + 1)
filled front old mid u count counted lt held =
    let left : 0 < length (drop count old) = let e = length-drop count old in omega arith in
    let whole = take_all (length old) front (omega arith) in
    let all = take_all (length old) (front ++ u ∷ []) (let e = length-append front (u ∷ []) in omega arith) in
    (λ i. set (held i) (counted i) u)
    ∙ ap (λ l. set (l ++ drop count old) (length front) u) whole
    ∙ put_at front (drop count old) u left
    ∙ ap (λ l. front ++ u ∷ l) (drop-drop 1 count old)
    ∙ sym (append_assoc front (u ∷ []) (drop (count + 1) old))
    ∙ ap (λ l. l ++ drop (count + 1) old) (sym all)

full : {X : Type 0} (front old mid : List X) (u : X) (count : ℕ) → count ≡ length front → length old ≤ count
    → Holds front old mid count
    → Holds (front ++ u ∷ []) old (set mid count u) (count + 1)
full front old mid u count counted le held =
    search (rules, take-append-le, drop_all, length-append, length-take-le, set_out)

pub put_next : {X : Type 0} (front old mid : List X) (u : X) (count : ℕ) → count ≡ length front
    → Holds front old mid count
    → Holds (front ++ u ∷ []) old (set mid count u) (count + 1)
put_next front old mid u count counted held = search (rules, cases_lt, filled, full)

-- ---- a walk that is under way

pub record GivesSoFar (start : Expectation) (list : List ℕ) (s : State) (count : ℕ) (old new : List EtherUnit) : Type
    0 where
  pub way : UnderWay start list s
  pub front : List EtherUnit
  pub parts : c_units (whole start list) (way.done ++ way.left) ≡ front ++ c_units way.window way.left
  pub counted : count ≡ length front
  pub holds : Holds front old new count

pub gives_first : (start : Expectation) (list : List ℕ) (s : State) (old : List EtherUnit) (hs : List Header)
    (e : Ending) → Walk start list hs e → Faces list (whole start list) s hs e → s.over ≡ false
    → GivesSoFar start list s 0 old old
unfolding under_way_first
gives_first start list s old hs e walk faces going = record {
  way = under_way_first start list s hs e walk faces going;
  front = [];
  parts = refl;
  counted = refl;
  holds = search (rules, take-nil);
}

-- ---- a unit

-- the unit that is given, and its places
pub record UnitGiven (start : Expectation) (list : List ℕ) (s t : State) (u : PeelUnit) (way : UnderWay start list s)
    : Type 0 where
  pub next : Passes start list s t u way
  pub header : unit_header u ≡ next.header
  pub after : s.offset + header_len (unit_header u) ≡ t.offset
  pub given : c_view u s.offset t.offset (t.offset + length t.rest) t.closed ≡ c_unit way.window next.header

pub same_end : (list : List ℕ) (w : Window) (s : State) (hs : List Header) (e : Ending) → Faces list w s hs e
    → s.offset + length s.rest ≡ w.finish
same_end list w s hs e faces = search (rules, length-part)

pub unit_given : (start : Expectation) (list : List ℕ) (s t : State) (u : PeelUnit) (way : UnderWay start list s)
    → IsBytes list → Gives s (Some (Ok u)) t → UnitGiven start list s t u way
unit_given start list s t u way ok gives =
    let n = passes start list s t u way gives in
    let w = way.window in
    let same = passes_header start list s t u way n ok in
    let inner = n.faces in
    let from = way.faces.offset in
    let to = inner.offset in
    let end = same_end list (payload w n.header) t n.later way.ending inner in
    let mark = inner.closed in
    let places : c_view u s.offset t.offset (t.offset + length t.rest) t.closed
    ≡ c_placed n.header w.start (payload w n.header).start (payload w n.header).finish
    (payload w n.header).closed =
    λ i. c_placed (same i) (from i) (to i) (end i) (mark i) in
    let long : (payload w n.header).start - w.start ≡ header_len n.header = omega arith in
    let len = ap header_len same in
    record {
      next = n;
      header = same;
      after = omega arith;
      given = places ∙ (λ i. record (c_unit w n.header) { header_len = long i });
    }

pub gives_unit : (start : Expectation) (list : List ℕ) (s t : State) (u : PeelUnit) (count : ℕ)
    (old mid new : List EtherUnit) (given : EtherUnit) (a : GivesSoFar start list s count old mid)
    (n : UnitGiven start list s t u a.way)
    → given ≡ c_view u s.offset t.offset (t.offset + length t.rest) t.closed → new ≡ set mid count given
    → GivesSoFar start list t (count + 1) old new
unfolding under_way_next
gives_unit start list s t u count old mid new given a n is put =
    let h = n.next.header in
    let w = a.way.window in
    let unit = c_unit w h in
    let later = c_units (payload w h) n.next.later in
    let counted = a.counted in
    record {
      way = under_way_next start list s t u a.way n.next;
      front = a.front ++ unit ∷ [];
      parts = ap (c_units (whole start list)) (sym (passed_headers start list s t u a.way n.next))
          ∙ a.parts ∙ ap (λ (l : List Header). a.front ++ c_units w l) n.next.parts
          ∙ sym (append_assoc a.front (unit ∷ []) later);
      counted = let e = length-append a.front (unit ∷ []) in omega arith;
      holds = put ∙ ap (set mid count) (is ∙ n.given) ∙ put_next a.front old mid unit count a.counted a.holds;
    }

-- ---- the end

pub length-given : (w : Window) (hs : List Header) → length (c_units w hs) ≡ length hs
length-given w [] = refl
length-given w (h ∷ hs) = ap suc (length-given (payload w h) hs)

gives_end : (start : Expectation) (list : List ℕ) (s : State) (count : ℕ) (old new : List EtherUnit)
    (a : GivesSoFar start list s count old new) → a.way.left ≡ [] → GivesUnits start list old new count
gives_end start list s count old new a none =
    let way = a.way in
    let all = way.done ++ way.left in
    let parts =
    a.parts ∙ ap (λ (l : List Header). a.front ++ c_units way.window l) none ∙ append-nil a.front in
    record {
      headers = all;
      ending = way.ending;
      walk = way.walk;
      one = only start list s way;
      counted = a.counted ∙ ap length (sym parts) ∙ length-given (whole start list) all;
      units = a.holds ∙ ap (λ (l : List EtherUnit). take (length old) l ++ drop count old) (sym parts);
    }

pub gives_last : (start : Expectation) (list : List ℕ) (s t : State) (r : Option (Result PeelUnit PeelFault))
    (count : ℕ) (old new : List EtherUnit)
    → GivesSoFar start list s count old new → NoUnit r → Gives s r t → GivesUnits start list old new count
gives_last start list s t r count old new a none gives =
    gives_end start list s count old new a (stops start list s t r a.way none gives).none_left
