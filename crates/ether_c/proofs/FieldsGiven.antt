-- The fields of a walk that is under way, in an array.
use Rattle.std.proofs.Common.{◌≡◌, ℕ, ◌+◌, ◌*◌, ◌≤◌, List, [], ◌∷◌, ◌++◌, length, take, drop, map, false, refl, sym, ap, ◌∙◌, arith, rules}
use Rattle.std.specs.Prelude.{Option, Result}
use Rattle.std.proofs.Math.Seq.{take-nil}
use Rattle.std.proofs.lemmas.List.{append_assoc, append-nil, length-append, map-append}
use Rattle.etherparse.specs.Header.{Header, header_len, trailer_len}
use Rattle.etherparse.specs.Header as headers
use Rattle.ether_peel.specs.Grammar.Window.{Window, payload}
use Rattle.ether_peel.specs.Grammar.Expectation.{Expectation}
use Rattle.ether_peel.specs.Grammar.Stack.{Ending, whole, Walk}
use Rattle.ether_peel.specs.Walker.State.{State}
use Rattle.ether_peel.specs.Walker.Next.{Faces, Gives}
use Rattle.ether_peel.specs.declared.peel_unit.PeelUnit.{PeelUnit}
use Rattle.ether_peel.specs.declared.peel_fault.PeelFault.{PeelFault}
use Rattle.ether_peel.proofs.Walker.UnderWay.{UnderWay, under_way_first, passed_headers, under_way_next, only, NoUnit, stops}
use Rattle.ether_c.specs.declared.ether_field.EtherField.{EtherField}
use Rattle.ether_peel.specs.Walker.UnitHeader.{unit_header}
use Rattle.ether_fields.specs.Units.{header_fields, trailer_fields}
use Rattle.ether_c.specs.FieldTables.{moved}
use Rattle.ether_c.specs.Fields.{c_field, c_fields, HasFields}
use Rattle.ether_c.specs.FieldViews.{put_all, c_placed_fields}
use Rattle.ether_c.proofs.UnitsGiven.{Holds, UnitGiven, same_end}
use Rattle.ether_c.proofs.FieldLists.{put_all_next, few_fields, length-placed}

-- ---- a walk that is under way

pub record FieldsSoFar (start : Expectation) (list : List ℕ) (s : State) (index count : ℕ)
    (old new : List EtherField) : Type 0 where
  pub way : UnderWay start list s
  pub front : List EtherField
  pub parts : c_fields list 0 (whole start list) (way.done ++ way.left)
      ≡ front ++ c_fields list index way.window way.left
  pub counted : count ≡ length front
  pub few : count ≤ 2 * s.offset
  pub holds : Holds front old new count

pub fields_first : (start : Expectation) (list : List ℕ) (s : State) (old : List EtherField) (hs : List Header)
    (e : Ending) → Walk start list hs e
    → Faces list (whole start list) s hs e → s.over ≡ false → FieldsSoFar start list s 0 0 old old
unfolding under_way_first
fields_first start list s old hs e walk faces going = record {
  way = under_way_first start list s hs e walk faces going;
  front = [];
  parts = refl;
  counted = refl;
  few = omega arith;
  holds = search (rules, take-nil);
}

-- ---- a unit

-- what is after the payload is in the list
trailer_in : (list : List ℕ) (w : Window) (h : Header) → w.finish ≤ length list
    → (payload w h).start ≤ (payload w h).finish
    → (payload w h).finish ≤ length list → (payload w h).finish + trailer_len h ≤ length list
trailer_in list w (headers.Ethernet2 e) whole ordered inside = omega arith
trailer_in list w h whole ordered inside = search rules

-- the unit that is given is in the list
pub record UnitPlaced (list : List ℕ) (w : Window) (s t : State) (u : PeelUnit) (h : Header) : Type 0 where
  pub from : s.offset ≡ w.start
  pub end : t.offset + length t.rest ≡ (payload w h).finish
  pub header : s.offset + header_len (unit_header u) ≤ length list
  pub trailer : t.offset + length t.rest + trailer_len (unit_header u) ≤ length list

pub unit_placed : (start : Expectation) (list : List ℕ) (s t : State) (u : PeelUnit) (way : UnderWay start list s)
    → (n : UnitGiven start list s t u way) → UnitPlaced list way.window s t u n.next.header
unit_placed start list s t u way n =
    let w = way.window in
    let h = n.next.header in
    let facing = way.faces in
    let inner = n.next.faces in
    let len = ap header_len n.header in
    let from = facing.offset in
    let end = same_end list (payload w h) t n.next.later way.ending inner in
    let after = n.after in
    let to = inner.offset in
    let ordered = inner.inside.ordered in
    let inside = inner.inside.inside in
    let trailer = trailer_in list w h facing.inside.inside ordered inside in
    let trailer_is = ap trailer_len n.header in
    record { from = from; end = end; header = omega arith; trailer = omega arith }

pub fields_unit : (start : Expectation) (list : List ℕ) (s t : State) (u : PeelUnit) (index count next : ℕ)
    (old mid new : List EtherField)
    (a : FieldsSoFar start list s index count old mid) (n : UnitGiven start list s t u a.way)
    → new ≡ put_all mid count (c_placed_fields list index s.offset (t.offset + length t.rest) (unit_header u))
    → next ≡ count + length (header_fields (unit_header u)) + length (trailer_fields (unit_header u))
    → FieldsSoFar start list t (index + 1) next old new
unfolding under_way_next
fields_unit start list s t u index count next old mid new a n put more =
    let h = n.next.header in
    let w = a.way.window in
    let placed = unit_placed start list s t u a.way n in
    let own = c_placed_fields list index w.start (payload w h).finish h in
    let later = c_fields list (index + 1) (payload w h) n.next.later in
    let same : c_placed_fields list index s.offset (t.offset + length t.rest) (unit_header u) ≡ own =
    λ i. c_placed_fields list index (placed.from i) (placed.end i) (n.header i) in
    let joined : c_fields list index w (h ∷ n.next.later) ≡ own ++ later =
    ap (λ (l : List EtherField). l ++ later)
    (map-append (c_field list index) (map (moved w.start) (header_fields h))
    (map (moved (payload w h).finish) (trailer_fields h))) in
    let own_length : length own
    ≡ length (header_fields h) + length (trailer_fields h) = length-placed list index w.start (payload w h).finish
    h in
    let next_is : next ≡ count + (length (header_fields h) + length (trailer_fields h)) =
    more ∙ (λ i. count + length (header_fields (n.header i)) + length (trailer_fields (n.header i))) ∙ omega arith in
    let next_own : next ≡ count + length own = omega arith in
    let few = few_fields h in
    let len = ap header_len n.header in
    let after = n.after in
    let before = a.few in
    let counted = a.counted in
    record {
      way = under_way_next start list s t u a.way n.next;
      front = a.front ++ own;
      parts = ap (c_fields list 0 (whole start list)) (sym (passed_headers start list s t u a.way n.next))
          ∙ a.parts ∙ ap (λ (l : List Header). a.front ++ c_fields list index w l) n.next.parts
          ∙ ap (λ (l : List EtherField). a.front ++ l) joined
          ∙ sym (append_assoc a.front own later);
      counted = let e = length-append a.front own in omega arith;
      few = omega arith;
      holds = put ∙ ap (put_all mid count) same ∙ put_all_next own a.front old mid count a.counted a.holds
          ∙ ap (λ (k : ℕ). take (length old) (a.front ++ own) ++ drop k old) (sym next_own);
    }

-- ---- the end

fields_end : (start : Expectation) (list : List ℕ) (s : State) (index count : ℕ) (old new : List EtherField)
    (a : FieldsSoFar start list s index count old new)
    → a.way.left ≡ [] → HasFields start list old new count
fields_end start list s index count old new a none =
    let way = a.way in
    let parts =
    a.parts ∙ ap (λ (l : List Header). a.front ++ c_fields list index way.window l) none ∙ append-nil a.front in
    record {
      headers = way.done ++ way.left;
      ending = way.ending;
      walk = way.walk;
      one = only start list s way;
      fields = (
        a.holds ∙ ap (λ (l : List EtherField). take (length old) l ++ drop count old) (sym parts),
        a.counted ∙ ap length (sym parts),
      );
    }

pub fields_last : (start : Expectation) (list : List ℕ) (s t : State) (r : Option (Result PeelUnit PeelFault))
    (index count : ℕ) (old new : List EtherField)
    → FieldsSoFar start list s index count old new → NoUnit r → Gives s r t → HasFields start list old new count
fields_last start list s t r index count old new a none gives =
    fields_end start list s index count old new a (stops start list s t r a.way none gives).none_left
