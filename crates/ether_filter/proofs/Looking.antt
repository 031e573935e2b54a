-- The walk that `look` takes, and what it shows at its end.
use Rattle.std.proofs.Common.{◌≡◌, ℕ, ◌≤◌, List, length, [], ◌∷◌, refl, sym, ap, subst, ◌∙◌, Bool, true, false, ◌||◌, nat_eq}
use Rattle.std.specs.Prelude.{Option, Some, None, Ok, Err, is_some}
use Rattle.std.specs.List.{list_any}
use Rattle.std.proofs.Math.Bool.{or-false}
use Rattle.std.proofs.lemmas.List.Folds.{list_any-append}
use Rattle.etherparse.specs.Bytes.{IsBytes}
use Rattle.etherparse.specs.Header.{Header, kind_of}
use Rattle.etherparse.specs.Header as headers
use Rattle.etherparse.specs.Kind.{Kind}
use Rattle.etherparse.specs.Kind as kinds
use Rattle.ether_peel.specs.Grammar.Window.{within}
use Rattle.ether_peel.specs.Grammar.Expectation.{Next, Expectation, announced_by, announced_next}
use Rattle.ether_peel.specs.Grammar.Stack.{Ending, whole, Walk}
use Rattle.ether_peel.specs.Grammar.Endings.{refusal_of}
use Rattle.ether_peel.specs.Walker.Start.{start_of, next_of}
use Rattle.ether_peel.specs.Walker.State.{State}
use Rattle.ether_peel.specs.Walker.Next.{begun, FacesWalk, Gives}
use Rattle.ether_peel.specs.Walker.UnitHeader.{unit_header}
use Rattle.ether_peel.specs.declared.start.Start.{Start as PeelStart}
use Rattle.ether_peel.specs.declared.peel_unit.PeelUnit.{PeelUnit}
use Rattle.ether_peel.specs.declared.peel_fault.PeelFault.{PeelFault}
use Rattle.ether_peel.proofs.Grammar.Stacks.{one_stack}
use Rattle.ether_peel.proofs.Grammar.Announced.{announced_is}
use Rattle.ether_peel.proofs.Walker.UnderWay.{UnderWay, under_way_first, passes, passes_unit, passes_header, under_way_next, stops, no_none, no_fault, faults, accepts}
use Rattle.ether_filter.specs.declared.primitive.Primitive.TheVariants as primitives
use Rattle.ether_filter.specs.declared.seen.Seen.{Seen}
use Rattle.ether_filter.specs.Fields.{fields_of}
use Rattle.ether_filter.specs.Primitives.{is_tag, vlan_ids, listed, ether_type_of, ether_types, Walked}
use Rattle.ether_filter.specs.TagMarks.{is_some_number, has_bit}
use Rattle.ether_filter.specs.Seen.{nothing, tag_id, AreMarked, IsTaken, first, last_other, announced_before, was_announced, has_vlan_id, Shows}
use Rattle.ether_filter.proofs.Announced.{next_at, followed, next_after_more, ether_types_are, listed_any}
use Rattle.ether_filter.proofs.SeenLemmas.{has_three, Keeps, keeps_next}
use Rattle.ether_filter.proofs.TagMarksLemmas.{no_type}

-- ---- at the end

tagged : (hs : List Header) → is_some (first (vlan_ids hs)) ≡ list_any is_tag hs
tagged [] = refl
tagged (headers.Vlan v ∷ hs) = refl
tagged (h ∷ hs) = tagged hs

either : (a b : Bool) → (a || b) ≡ (b || a)
either true true = refl
either true false = refl
either false true = refl
either false false = refl

types_shown : (n : ℕ) (next : Next) (hs : List Header) (last : Option ℕ) (earlier : Bool)
    → last ≡ ether_type_of (next_at next hs) → earlier ≡ list_any (nat_eq n) (followed next hs)
    → (is_some_number n last || earlier) ≡ list_any (nat_eq n) (ether_types next hs)
types_shown n next hs last earlier is are =
    let here = listed (ether_type_of (next_at next hs)) in
    either (is_some_number n last) earlier
    ∙ (λ i. are i || is_some_number n (is i))
    ∙ ap (λ b. list_any (nat_eq n) (followed next hs) || b) (sym (listed_any n (ether_type_of (next_at next hs))))
    ∙ sym (list_any-append (nat_eq n) (followed next hs) here)
    ∙ ap (list_any (nat_eq n)) (sym (ether_types_are next hs))

vlan_id_is : (n : ℕ) (ids marks : List ℕ) → (has_three ids ≡ true → has_bit marks n ≡ list_any (nat_eq n) ids)
    → has_vlan_id n (has_three ids) (first ids) (last_other ids) marks ≡ list_any (nat_eq n) ids
vlan_id_is n [] marks are = refl
vlan_id_is n (a ∷ []) marks are = sym (or-false (nat_eq n a))
vlan_id_is n (a ∷ b ∷ []) marks are = ap (λ (c : Bool). nat_eq n a || c) (sym (or-false (nat_eq n b)))
vlan_id_is n (a ∷ b ∷ c ∷ ids) marks are = are refl

-- what is kept of all headers shows what they are
pub shown : (start : PeelStart) (w : Walked) (s : Seen) (ids : List ℕ) (last : Option ℕ) (refused : Bool)
    → (s.has_more ≡ true → 64 ≤ length ids) → w.start ≡ next_of start → Keeps start w.headers s ids
    → last ≡ ether_type_of (next_at (next_of start) w.headers) → refused ≡ is_some (refusal_of w.ending)
    → Shows w (record s { last = last; is_refused = refused }) ids
shown start w s ids last refused room at k is end primitives.Vlan asks free = ap is_some k.outer ∙ tagged w.headers
shown start w s ids last refused room at k is end (primitives.VlanId n) asks free =
    (λ i. has_vlan_id n (k.more i) (k.outer i) (k.inner i) ids)
    ∙ vlan_id_is n (vlan_ids w.headers) ids (λ three. k.marks (room (k.more ∙ three)) n)
shown start w s ids last refused room at k is end (primitives.OuterVlan n) asks free = ap (is_some_number n) k.outer
shown start w s ids last refused room at k is end (primitives.InnerVlan n) asks free = ap (is_some_number n) k.inner
shown start w s ids last refused room at k is end primitives.Macsec asks free = k.sec_tag
shown start w s ids last refused room at k is end (primitives.EtherType n) asks free =
    types_shown n (next_of start) w.headers last (was_announced n s) is (k.types n)
    ∙ ap (λ (next : Next). list_any (nat_eq n) (ether_types next w.headers)) (sym at)
shown start w s ids last refused room at k is end primitives.Refused asks free = end
shown start w s ids last refused room at k is end primitives.Cut asks free = absurd cc
shown start w s ids last refused room at k is end (primitives.Less n) asks free = absurd cc
shown start w s ids last refused room at k is end (primitives.Greater n) asks free = absurd cc
shown start w s ids last refused room at k is end (primitives.Field t) asks free = absurd cc
shown start w s ids last refused room at k is end (primitives.Frame t) asks free = absurd cc
shown start w s ids last refused room at k is end p asks free = k.link p refl

-- ---- the walk

nothing_before : (a : Option Kind) → announced_before a false false false ≡ false
nothing_before None = refl
nothing_before (Some kinds.Vlan) = refl
nothing_before (Some kinds.Macsec) = refl
nothing_before (Some kinds.Arp) = refl
nothing_before (Some kind) = refl

-- a walk under way, with what is kept of the headers that it has returned
pub record Looks (start : PeelStart) (list : List ℕ) (s : State) (seen : Seen) (ids : List ℕ) : Type 0 where
  pub way : UnderWay (start_of start) list s
  pub keeps : Keeps start way.done seen ids
  pub next : s.expected.next ≡ next_at (next_of start) way.done
  pub refused : seen.is_refused ≡ false

pub keeps_nothing : (start : PeelStart) (ids : List ℕ) → ((n : ℕ) → has_bit ids n ≡ false)
    → Keeps start [] nothing ids
keeps_nothing start ids none = record {
  outer = refl;
  inner = refl;
  more = refl;
  marks = λ room n. none n;
  sec_tag = refl;
  types =
      λ n. ap (λ b. announced_before (announced_by n) b false false) (no_type n)
      ∙ nothing_before (announced_by n);
  link = λ p of. refl;
}

pub looks_first : (start : PeelStart) (list : List ℕ) (s : State) (ids : List ℕ) → ((n : ℕ) → has_bit ids n ≡ false)
    → s ≡ begun (start_of start) list → FacesWalk (start_of start) list s → Looks start list s nothing ids
unfolding under_way_first
looks_first start list s ids none is faces = record {
  way =
      under_way_first (start_of start) list s faces.headers faces.ending faces.walk faces.faces
      (ap (λ (k : State). k.over) is);
  keeps = keeps_nothing start ids none;
  next = ap (λ (k : State). k.expected.next) is;
  refused = refl;
}

pub looks_next : (start : PeelStart) (list : List ℕ) (s t : State) (u : PeelUnit) (before after : Seen)
    (old new : List ℕ) → IsBytes list → Looks start list s before old → Gives s (Some (Ok u)) t
    → IsTaken before (fields_of (unit_header u)) (ether_type_of s.expected.next) after
    → AreMarked old (tag_id (fields_of (unit_header u))) new → length new ≡ length old → Looks start list t after new
unfolding under_way_next
looks_next start list s t u before after old new ok a gives taken marked len =
    let x = start_of start in
    let way = a.way in
    let w = way.window in
    let p = passes x list s t u way gives in
    let h = p.header in
    let unit = passes_unit x list s t u way p in
    let same = passes_header x list s t u way p ok in
    let next = a.next in
    let announced = subst (λ (n : Next). announced_next n ≡ Some (kind_of h)) next
    (announced_is s.expected (kind_of h) unit.announced) in
    let is = subst (λ (n : Next). IsTaken before (fields_of h) (ether_type_of n) after) next
    (subst (λ (k : Header). IsTaken before (fields_of k) (ether_type_of s.expected.next) after) same taken) in
    let marks = subst (λ (k : Header). AreMarked old (tag_id (fields_of k)) new) same marked in
    record {
      way = under_way_next x list s t u way p;
      keeps =
          keeps_next start way.done (within list w) h before after old new unit.means announced a.keeps is marks len;
      next = ap (λ (y : Expectation). y.next) p.expects ∙ sym (next_after_more (next_of start) way.done h);
      refused = taken.refused ∙ a.refused;
    }

-- no more units are returned
looks_end : (start : PeelStart) (list : List ℕ) (s : State) (before : Seen) (ids : List ℕ) (last : Option ℕ)
    (refused : Bool) (w : Walked) (a : Looks start list s before ids) → (before.has_more ≡ true → 64 ≤ length ids)
    → Walk (start_of start) list a.way.done a.way.ending
    → last ≡ ether_type_of s.expected.next → refused ≡ is_some (refusal_of a.way.ending) → w.start ≡ next_of start
    → Walk (start_of start) list w.headers w.ending → Shows w (record before { last = last; is_refused = refused }) ids
looks_end start list s before ids last refused w a room done is end at walk =
    let x = start_of start in
    let one = one_stack list x (whole x list) w.headers a.way.done w.ending a.way.ending walk done in
    let keeps = subst (λ (hs : List Header). Keeps start hs before ids) (sym one.0) a.keeps in
    let next = subst (λ (hs : List Header). s.expected.next ≡ next_at (next_of start) hs) (sym one.0) a.next in
    shown start w before ids last refused room at keeps (is ∙ ap ether_type_of next)
    (end ∙ ap (λ (e : Ending). is_some (refusal_of e)) (sym one.1))

pub looks_fault : (start : PeelStart) (list : List ℕ) (s t : State) (f : PeelFault) (before : Seen) (ids : List ℕ)
    (last : Option ℕ) (w : Walked) → Looks start list s before ids → (before.has_more ≡ true → 64 ≤ length ids)
    → Gives s (Some (Err f)) t → last ≡ ether_type_of s.expected.next
    → w.start ≡ next_of start → Walk (start_of start) list w.headers w.ending
    → Shows w (record before { last = last; is_refused = true }) ids
looks_fault start list s t f before ids last w a room gives is at walk =
    let x = start_of start in
    let end = stops x list s t (Some (Err f)) a.way (no_fault f) gives in
    let fault = faults x list s t f a.way gives in
    looks_end start list s before ids last true w a room end.walk is
    (ap (λ (e : Ending). is_some (refusal_of e)) (sym fault.ending)) at walk

pub looks_none : (start : PeelStart) (list : List ℕ) (s t : State) (before : Seen) (ids : List ℕ)
    (last : Option ℕ) (w : Walked) → Looks start list s before ids → (before.has_more ≡ true → 64 ≤ length ids)
    → Gives s None t → last ≡ ether_type_of s.expected.next
    → w.start ≡ next_of start → Walk (start_of start) list w.headers w.ending
    → Shows w (record before { last = last }) ids
looks_none start list s t before ids last w a room gives is at walk =
    let x = start_of start in
    let end = stops x list s t None a.way no_none gives in
    let accepted = accepts x list s t a.way gives in
    looks_end start list s before ids last before.is_refused w a room end.walk is
    (a.refused ∙ ap (λ (e : Ending). is_some (refusal_of e)) (sym accepted)) at walk
