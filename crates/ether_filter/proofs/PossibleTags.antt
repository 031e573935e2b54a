-- What completed packets can make of the primitives about identifiers of VLAN tags.
use Rattle.std.proofs.Common.{◌≡◌, ℕ, ◌<◌, List, [], ◌∷◌, ◌++◌, length, take, refl, sym, ap, subst, ◌∙◌, arith, inl, inr, ◌⊎◌, Bool, true, false, nat_eq, IsTrue, ◌↔◌}
use Rattle.std.specs.List.{list_any}
use Rattle.std.proofs.lemmas.Bool.{eqb-true, eq-eqb, ne_eqb}
use Rattle.std.proofs.lemmas.List.{append-nil}
use Rattle.std.proofs.lemmas.List.Folds.{list_any-append}
use Rattle.etherparse.specs.Kind.{Kind}
use Rattle.etherparse.specs.Kind as kinds
use Rattle.etherparse.specs.Vlan.{VlanValue, vlan_of}
use Rattle.etherparse.specs.Header.{Header}
use Rattle.etherparse.specs.Header as headers
use Rattle.ether_peel.specs.Grammar.Stack.{Ending}
use Rattle.ether_filter.specs.declared.can.Can.{Can}
use Rattle.ether_filter.specs.declared.packet.Packet.{Packet}
use Rattle.ether_filter.specs.declared.primitive.Primitive.TheVariants as primitives
use Rattle.ether_filter.specs.declared.prospect.OpenKind.{OpenKind}
use Rattle.ether_filter.specs.declared.prospect.OpenKind.TheVariants as open_kinds
use Rattle.ether_filter.specs.declared.prospect.Prospect.{Prospect}
use Rattle.ether_filter.specs.Primitives.{is_tag, vlan_ids, Walked, walked}
use Rattle.ether_filter.specs.Seen.{first}
use Rattle.ether_filter.specs.TagMarks.{is_some_number}
use Rattle.ether_filter.specs.Prospects.{Continues, IsFixed, IsCut, kind_named}
use Rattle.ether_filter.specs.Later.{CanTag, SomeCompletion, IsOpenAs}
use Rattle.ether_filter.specs.Possible.{is_vlan}
use Rattle.ether_filter.proofs.Chosen.{some_chosen, vlan_unit, chosen_vid}
use Rattle.ether_filter.proofs.Follows.{IsFrom}
use Rattle.ether_filter.proofs.LaterLemmas.{IsAfter, by_either}
use Rattle.ether_filter.proofs.Longer.{ids_append}
use Rattle.ether_filter.proofs.Outcomes.{IsOutcome, some_end, some_tag}
use Rattle.ether_filter.proofs.PossibleLemmas.{in_front, behind, neither, front_false, true_or, tag_of_kind, vlan_named, vlan_room, never_refused, IsTest, SomeRest, Conditions, ByTest, test_outcome}
use Rattle.ether_filter.proofs.Prospects.{vlan_is_fixed}

-- ---- identifiers of headers

pub ids_behind : (n : ℕ) (unit : Header) (later : List Header) → list_any (nat_eq n) (vlan_ids later) ≡ true
    → list_any (nat_eq n) (vlan_ids (unit ∷ later)) ≡ true
ids_behind n (headers.Vlan v) later any = behind (nat_eq n v.vid) (list_any (nat_eq n) (vlan_ids later)) any
ids_behind n (headers.Ethernet2 h) later any = any
ids_behind n (headers.Ethernet2Fcs h) later any = any
ids_behind n (headers.LinuxSll h) later any = any
ids_behind n (headers.Macsec h) later any = any
ids_behind n (headers.Arp h) later any = any

-- no tag adds none
pub ids_same : (unit : Header) (later : List Header) → is_tag unit ≡ false → vlan_ids (unit ∷ later) ≡ vlan_ids later
ids_same (headers.Vlan v) later gone = absurd cc
ids_same (headers.Ethernet2 h) later gone = refl
ids_same (headers.Ethernet2Fcs h) later gone = refl
ids_same (headers.LinuxSll h) later gone = refl
ids_same (headers.Macsec h) later gone = refl
ids_same (headers.Arp h) later gone = refl

pub tags_of_ids : (n : ℕ) (hs : List Header) → list_any (nat_eq n) (vlan_ids hs) ≡ true → list_any is_tag hs ≡ true
tags_of_ids n [] any = absurd cc
tags_of_ids n (headers.Vlan v ∷ hs) any = refl
tags_of_ids n (headers.Ethernet2 h ∷ hs) any = tags_of_ids n hs any
tags_of_ids n (headers.Ethernet2Fcs h ∷ hs) any = tags_of_ids n hs any
tags_of_ids n (headers.LinuxSll h ∷ hs) any = tags_of_ids n hs any
tags_of_ids n (headers.Macsec h ∷ hs) any = tags_of_ids n hs any
tags_of_ids n (headers.Arp h ∷ hs) any = tags_of_ids n hs any

pub no_ids : (hs : List Header) → list_any is_tag hs ≡ false → vlan_ids hs ≡ []
no_ids [] none = refl
no_ids (headers.Vlan v ∷ hs) none = absurd cc
no_ids (headers.Ethernet2 h ∷ hs) none = no_ids hs none
no_ids (headers.Ethernet2Fcs h ∷ hs) none = no_ids hs none
no_ids (headers.LinuxSll h ∷ hs) none = no_ids hs none
no_ids (headers.Macsec h ∷ hs) none = no_ids hs none
no_ids (headers.Arp h ∷ hs) none = no_ids hs none

-- ---- the unit's own identifier

-- bytes that go on have an identifier for which this is so
abbrev pub SomeId : List ℕ → ℕ → (ℕ → Type 0) → Type 0
SomeId known room Is = (bytes : List ℕ) × Continues known room bytes × Is (vlan_of bytes).vid

vlan_cut : (kind : OpenKind) (known : List ℕ) → is_vlan kind ≡ true → IsCut kind known → length known < 4
vlan_cut open_kinds.Vlan known is cut = cut
vlan_cut open_kinds.Ethernet2 known is cut = absurd cc
vlan_cut open_kinds.LinuxSll known is cut = absurd cc
vlan_cut open_kinds.Macsec known is cut = absurd cc
vlan_cut open_kinds.Arp known is cut = absurd cc

vlan_from : (kind : OpenKind) (known : List ℕ) (room : ℕ) (unit : Header) → is_vlan kind ≡ true
    → IsFrom (kind_named kind) known room unit → IsFrom kinds.Vlan known room unit
vlan_from kind known room unit own f = subst (λ (k : Kind). IsFrom k known room unit) (vlan_named kind own) f

-- the unit is a tag with an identifier
pub record HasId (known : List ℕ) (room : ℕ) (unit : Header) : Type 0 where
  pub tag : VlanValue
  pub is : unit ≡ headers.Vlan tag
  pub bytes : List ℕ
  pub on : Continues known room bytes
  pub vid : tag.vid ≡ (vlan_of bytes).vid

pub own_id : (packet : Packet) (hs : List Header) (kind : OpenKind) (known : List ℕ) (room : ℕ) (p : Prospect)
    → IsOpenAs packet hs kind known room p → is_vlan kind ≡ true → IsTrue p.can_be_accepted → (unit : Header)
    → IsFrom (kind_named kind) known room unit → HasId known room unit
own_id packet hs kind known room p o own got unit f =
    let g = vlan_from kind known room unit own f in
    record {
      tag = vlan_of g.bytes;
      is = vlan_unit known room unit g (vlan_room packet hs kind known room p o own got);
      bytes = g.bytes;
      on = g.on;
      vid = refl;
    }

-- a completed packet ends with a tag that has an identifier which bytes that go on can have
pub some_id : (packet : Packet) (hs : List Header) (kind : OpenKind) (known : List ℕ) (room : ℕ) (p : Prospect)
    (Is : Walked → Type 0) (Has : ℕ → Type 0) → IsOpenAs packet hs kind known room p → is_vlan kind ≡ true
    → IsTrue p.can_be_accepted → SomeId known room Has
    → ((tag : VlanValue) (e : Ending) → Has tag.vid → Is (walked packet (hs ++ headers.Vlan tag ∷ []) e))
    → SomeCompletion packet Is
some_id packet hs kind known room p Is Has o own got (bytes, on, has) holds =
    let long = vlan_room packet hs kind known room p o own got in
    some_chosen packet hs kind known room 4 p Is o
    (subst (λ (k : Kind). IsFixed k 4) (sym (vlan_named kind own)) vlan_is_fixed) (omega arith)
    (vlan_cut kind known own o.cut) long bytes on
    (λ unit e f. (let g = vlan_from kind (take 3 bytes) room unit own f in
    subst (λ (h : Header). Is (walked packet (hs ++ h ∷ []) e)) (sym (vlan_unit (take 3 bytes) room unit g long))
    (holds (vlan_of g.bytes) e (subst Has (sym (chosen_vid bytes g.bytes room long on.len g.on)) has))))

-- ---- `vlan N`

id_test : (packet : Packet) (hs : List Header) (n : ℕ)
    → IsTest packet hs (primitives.VlanId n) (list_any (nat_eq n) (vlan_ids hs))
    (λ rest. list_any (nat_eq n) (vlan_ids rest))
id_test packet hs n = record {
  splits = λ rest e. ap (list_any (nat_eq n)) (ids_append hs rest)
      ∙ list_any-append (nat_eq n) (vlan_ids hs) (vlan_ids rest);
  none = refl;
}

abbrev pub IdHolds : OpenKind → List ℕ → ℕ → Prospect → ℕ → Type 0
IdHolds kind known room p n =
    IsTrue p.can_be_accepted
    × (((is_vlan kind ≡ true) × SomeId known room (λ vid. vid ≡ n)) ⊎ ((n < 4096) × CanTag p 4))

abbrev pub IdFails : OpenKind → List ℕ → ℕ → Prospect → ℕ → Type 0
IdFails kind known room p n =
    is_vlan kind ≡ true → IsTrue p.can_be_accepted → SomeId known room (λ vid. vid ≡ n → ⊥)

-- the unit lacks the identifier, and is the last one
pub some_other_id : (packet : Packet) (hs : List Header) (kind : OpenKind) (known : List ℕ) (room : ℕ) (p : Prospect)
    (n : ℕ) (test : List ℕ → Bool) → test [] ≡ false → ((id : ℕ) → (id ≡ n → ⊥) → test (id ∷ []) ≡ false)
    → IsOpenAs packet hs kind known room p → IdFails kind known room p n
    → SomeRest packet hs (λ rest. test (vlan_ids rest) ≡ false)
some_other_id packet hs kind known room p n test none one o fails =
    by_kind (true_or (is_vlan kind)) (true_or p.can_be_accepted)
  where
    no_tag : (IsTrue p.can_be_accepted → is_vlan kind ≡ false)
        → SomeRest packet hs (λ rest. test (vlan_ids rest) ≡ false)
    no_tag never = some_end packet hs kind known room p 0
        (λ w. (rest : List Header) × (w.headers ≡ hs ++ rest) × (test (vlan_ids rest) ≡ false)) o
        (λ gone e some. ([], sym (append-nil hs), none))
        (λ got unit e f differs last. (
          unit ∷ [],
          refl,
          ap test (ids_same unit [] (tag_of_kind unit kind f.accepts.of_kind ∙ never got)) ∙ none,
        ))

    by_kind : (is_vlan kind ≡ true) ⊎ (is_vlan kind ≡ false) → (p.can_be_accepted ≡ true) ⊎ (p.can_be_accepted ≡ false)
        → SomeRest packet hs (λ rest. test (vlan_ids rest) ≡ false)
    by_kind (inr other) got = no_tag (λ it. other)
    by_kind (inl own) (inr gone) = no_tag (λ got. absurd (let both : true ≡ false = sym got ∙ gone in cc))
    by_kind (inl own) (inl got) = some_id packet hs kind known room p
        (λ w. (rest : List Header) × (w.headers ≡ hs ++ rest) × (test (vlan_ids rest) ≡ false)) (λ vid. vid ≡ n → ⊥) o
        own got (fails own got) (λ tag e never. (headers.Vlan tag ∷ [], refl, one tag.vid never))

pub not_number : (n id : ℕ) → (id ≡ n → ⊥) → nat_eq n id ≡ false
not_number n id never = ne_eqb n id (λ e. never (sym e))

id_conditions : (packet : Packet) (hs : List Header) (kind : OpenKind) (known : List ℕ) (room : ℕ) (p : Prospect)
    (n : ℕ)
    → IsOpenAs packet hs kind known room p
    → Conditions packet hs kind known room p (λ rest. list_any (nat_eq n) (vlan_ids rest)) (IdHolds kind known room p n)
    (IdFails kind known room p n)
id_conditions packet hs kind known room p n o = record {
  some = λ (got, why). some got why;
  every = λ got unit later e f then is. (got, every got unit later e f then is (true_or (is_vlan kind)));
  some_not = some_other_id packet hs kind known room p n (list_any (nat_eq n)) refl
      (λ id never. neither (nat_eq n id) false (not_number n id never) refl) o;
  refused_not = λ gone own got. absurd (never_refused packet hs kind known room p o own got gone);
  every_not = λ got unit later e f then is own accepts.
      (let h = own_id packet hs kind known room p o own got unit f in
      let none : list_any (nat_eq n) (vlan_ids (headers.Vlan h.tag ∷ later)) ≡ false =
      ap (λ (k : Header). list_any (nat_eq n) (vlan_ids (k ∷ later))) (sym h.is) ∙ is in (
        h.bytes,
        h.on,
        λ same. (let both : true ≡ false = sym (eq-eqb n h.tag.vid (sym (h.vid ∙ same)))
            ∙ front_false (nat_eq n h.tag.vid) (list_any (nat_eq n) (vlan_ids later)) none in cc),
      ));
}
  where
    some : IsTrue p.can_be_accepted
        → ((is_vlan kind ≡ true) × SomeId known room (λ vid. vid ≡ n)) ⊎ ((n < 4096) × CanTag p 4)
        → SomeRest packet hs (λ rest. list_any (nat_eq n) (vlan_ids rest) ≡ true)
    some got (inl own) = some_id packet hs kind known room p
        (λ w. (rest : List Header) × (w.headers ≡ hs ++ rest) × (list_any (nat_eq n) (vlan_ids rest) ≡ true))
        (λ vid. vid ≡ n) o own.0 got own.1
        (λ tag e same. (headers.Vlan tag ∷ [], refl, in_front (nat_eq n tag.vid) false (eq-eqb n tag.vid (sym same))))
    some got (inr later) = some_tag packet hs kind known room p n
        (λ w. (rest : List Header) × (w.headers ≡ hs ++ rest) × (list_any (nat_eq n) (vlan_ids rest) ≡ true)) o got
        later.1 later.0
        (λ unit tag e of_kind is ids. (
          unit ∷ tag ∷ [],
          refl,
          ids_behind n unit (tag ∷ [])
              (ap (list_any (nat_eq n)) ids ∙ in_front (nat_eq n n) false (eq-eqb n n refl)),
        ))

    every : IsTrue p.can_be_accepted → (unit : Header) (later : List Header) (e : Ending)
        → IsFrom (kind_named kind) known room unit → IsAfter p unit later e
        → list_any (nat_eq n) (vlan_ids (unit ∷ later)) ≡ true → (is_vlan kind ≡ true) ⊎ (is_vlan kind ≡ false)
        → ((is_vlan kind ≡ true) × SomeId known room (λ vid. vid ≡ n)) ⊎ ((n < 4096) × CanTag p 4)
    every got unit later e f then is (inl own) =
        let h = own_id packet hs kind known room p o own got unit f in
        by_either (nat_eq n h.tag.vid) (list_any (nat_eq n) (vlan_ids later))
        (((is_vlan kind ≡ true) × SomeId known room (λ vid. vid ≡ n)) ⊎ ((n < 4096) × CanTag p 4))
        (λ same. inl (own, (h.bytes, h.on, sym h.vid ∙ sym (eqb-true n h.tag.vid same))))
        (λ any. inr (then.plain.ids n any, then.tag (tags_of_ids n later any)))
        (ap (λ (k : Header). list_any (nat_eq n) (vlan_ids (k ∷ later))) (sym h.is) ∙ is)
    every got unit later e f then is (inr other) =
        let any : list_any (nat_eq n) (vlan_ids later) ≡ true =
        ap (list_any (nat_eq n)) (sym (ids_same unit later (tag_of_kind unit kind f.accepts.of_kind ∙ other))) ∙ is in
        inr (then.plain.ids n any, then.tag (tags_of_ids n later any))

pub id_by : (packet : Packet) (hs : List Header) (kind : OpenKind) (known : List ℕ) (room : ℕ) (p : Prospect)
    (n : ℕ) → IsOpenAs packet hs kind known room p
    → ByTest packet hs kind known room p (primitives.VlanId n) (IdHolds kind known room p n)
    (IdFails kind known room p n)
id_by packet hs kind known room p n o =
    record {
      now = list_any (nat_eq n) (vlan_ids hs);
      test = λ rest. list_any (nat_eq n)
          (vlan_ids rest);
      is = id_test packet hs n;
      conditions = id_conditions packet hs kind known room p n o;
    }

-- ---- `outer vlan N`, if no header has a tag so far

outer_test : (packet : Packet) (hs : List Header) (n : ℕ) → list_any is_tag hs ≡ false
    → IsTest packet hs (primitives.OuterVlan n) false (λ rest. is_some_number n (first (vlan_ids rest)))
outer_test packet hs n none = record {
  splits = λ rest e. ap (λ (ids : List ℕ). is_some_number n (first ids))
      (ids_append hs rest ∙ ap (λ (ids : List ℕ). ids ++ vlan_ids rest) (no_ids hs none));
  none = refl;
}

abbrev pub OuterHolds : OpenKind → List ℕ → ℕ → Prospect → ℕ → Type 0
OuterHolds kind known room p n =
    IsTrue p.can_be_accepted
    × (((is_vlan kind ≡ true) × SomeId known room (λ vid. vid ≡ n))
    ⊎ ((is_vlan kind ≡ false) × (n < 4096) × CanTag p 4))

first_any : (n : ℕ) (ids : List ℕ) → is_some_number n (first ids) ≡ true → list_any (nat_eq n) ids ≡ true
first_any n [] is = absurd cc
first_any n (id ∷ ids) is = in_front (nat_eq n id) (list_any (nat_eq n) ids) is

outer_conditions : (packet : Packet) (hs : List Header) (kind : OpenKind) (known : List ℕ) (room : ℕ) (p : Prospect)
    (n : ℕ) → IsOpenAs packet hs kind known room p
    → Conditions packet hs kind known room p (λ rest. is_some_number n (first (vlan_ids rest)))
    (OuterHolds kind known room p n) (IdFails kind known room p n)
outer_conditions packet hs kind known room p n o = record {
  some = λ (got, why). some got why;
  every = λ got unit later e f then is. (got, every got unit later e f then is (true_or (is_vlan kind)));
  some_not = some_other_id packet hs kind known room p n (λ ids. is_some_number n (first ids)) refl
      (λ id never. not_number n id never) o;
  refused_not = λ gone own got. absurd (never_refused packet hs kind known room p o own got gone);
  every_not = λ got unit later e f then is own accepts.
      (let h = own_id packet hs kind known room p o own got unit f in
      let other : nat_eq n h.tag.vid ≡ false =
      ap (λ (k : Header). is_some_number n (first (vlan_ids (k ∷ later)))) (sym h.is) ∙ is in
      (h.bytes, h.on, λ same. (let both : true ≡ false = sym (eq-eqb n h.tag.vid (sym (h.vid ∙ same))) ∙ other in cc)));
}
  where
    some : IsTrue p.can_be_accepted
        → ((is_vlan kind ≡ true) × SomeId known room (λ vid. vid ≡ n))
        ⊎ ((is_vlan kind ≡ false) × (n < 4096) × CanTag p 4)
        → SomeRest packet hs (λ rest. is_some_number n (first (vlan_ids rest)) ≡ true)
    some got (inl own) = some_id packet hs kind known room p
        (λ w. (rest : List Header) × (w.headers ≡ hs ++ rest) × (is_some_number n (first (vlan_ids rest)) ≡ true))
        (λ vid. vid ≡ n) o own.0 got own.1
        (λ tag e same. (headers.Vlan tag ∷ [], refl, eq-eqb n tag.vid (sym same)))
    some got (inr later) = some_tag packet hs kind known room p n
        (λ w. (rest : List Header) × (w.headers ≡ hs ++ rest) × (is_some_number n (first (vlan_ids rest)) ≡ true)) o
        got later.2 later.1
        (λ unit tag e of_kind is ids. (
          unit ∷ tag ∷ [],
          refl,
          ap (λ (l : List ℕ). is_some_number n (first l))
              (ids_same unit (tag ∷ []) (tag_of_kind unit kind of_kind ∙ later.0) ∙ ids) ∙ eq-eqb n n refl,
        ))

    every : IsTrue p.can_be_accepted → (unit : Header) (later : List Header) (e : Ending)
        → IsFrom (kind_named kind) known room unit → IsAfter p unit later e
        → is_some_number n (first (vlan_ids (unit ∷ later))) ≡ true → (is_vlan kind ≡ true) ⊎ (is_vlan kind ≡ false)
        → ((is_vlan kind ≡ true) × SomeId known room (λ vid. vid ≡ n))
        ⊎ ((is_vlan kind ≡ false) × (n < 4096) × CanTag p 4)
    every got unit later e f then is (inl own) =
        let h = own_id packet hs kind known room p o own got unit f in
        let same : nat_eq n h.tag.vid ≡ true =
        ap (λ (k : Header). is_some_number n (first (vlan_ids (k ∷ later)))) (sym h.is) ∙ is in
        inl (own, (h.bytes, h.on, sym h.vid ∙ sym (eqb-true n h.tag.vid same)))
    every got unit later e f then is (inr other) =
        let any : list_any (nat_eq n) (vlan_ids later) ≡ true =
        first_any n (vlan_ids later) (ap (λ (l : List ℕ). is_some_number n (first l))
        (sym (ids_same unit later (tag_of_kind unit kind f.accepts.of_kind ∙ other))) ∙ is) in
        inr (other, then.plain.ids n any, then.tag (tags_of_ids n later any))

pub outer_outcome : (packet : Packet) (hs : List Header) (kind : OpenKind) (known : List ℕ) (room : ℕ) (p : Prospect)
    (n : ℕ) (can : Can) → IsOpenAs packet hs kind known room p → list_any is_tag hs ≡ false
    → IsTrue can.matches ↔ OuterHolds kind known room p n → IsTrue can.fails ↔ IdFails kind known room p n
    → IsOutcome packet (primitives.OuterVlan n) can
outer_outcome packet hs kind known room p n can o none matches fails =
    test_outcome packet hs kind known room p (primitives.OuterVlan n) false
    (λ rest. is_some_number n (first (vlan_ids rest))) (OuterHolds kind known room p n) (IdFails kind known room p n)
    can o (outer_test packet hs n none) (outer_conditions packet hs kind known room p n o)
    (λ t. inr (matches.0 t), λ it. elim it [ inl gone ↦ absurd cc | inr holds ↦ matches.1 holds ])
    (λ t. (refl, fails.0 t), λ both. fails.1 both.1)
