-- What completed packets can make of `inner vlan N`.
use Rattle.std.proofs.Common.{◌≡◌, ℕ, zero, suc, ◌<◌, List, [], ◌∷◌, ◌++◌, refl, sym, ap, ◌∙◌, arith, inl, inr, ◌⊎◌, Bool, true, false, nat_eq, IsTrue, ◌↔◌}
use Rattle.std.specs.Prelude.{Some}
use Rattle.std.specs.List.{list_any}
use Rattle.std.proofs.lemmas.Bool.{eqb-true, eq-eqb}
use Rattle.std.proofs.lemmas.List.{append-nil}
use Rattle.etherparse.specs.Header.{Header, kind_of}
use Rattle.etherparse.specs.Header as headers
use Rattle.ether_peel.specs.Grammar.Stack.{Ending}
use Rattle.ether_filter.specs.declared.can.Can.{Can}
use Rattle.ether_filter.specs.declared.packet.Packet.{Packet}
use Rattle.ether_filter.specs.declared.primitive.Primitive.TheVariants as primitives
use Rattle.ether_filter.specs.declared.prospect.OpenKind.{OpenKind}
use Rattle.ether_filter.specs.declared.prospect.Prospect.{Prospect}
use Rattle.ether_filter.specs.Primitives.{is_tag, vlan_ids, walked}
use Rattle.ether_filter.specs.Seen.{matching, last_from, last_other}
use Rattle.ether_filter.specs.TagMarks.{is_some_number}
use Rattle.ether_filter.specs.Prospects.{kind_named}
use Rattle.ether_filter.specs.Later.{CanTag, SomeCompletion, IsOpenAs}
use Rattle.ether_filter.specs.Possible.{is_vlan}
use Rattle.ether_filter.proofs.Follows.{IsFrom}
use Rattle.ether_filter.proofs.Following.{has_tag}
use Rattle.ether_filter.proofs.LaterLemmas.{IsAfter}
use Rattle.ether_filter.proofs.Longer.{ids_append}
use Rattle.ether_filter.proofs.Outcomes.{IsOutcome, every_by, some_end, some_alone, some_tag, some_two_tags}
use Rattle.ether_filter.proofs.PossibleLemmas.{true_or, in_front, behind, tag_of_kind, never_refused}
use Rattle.ether_filter.proofs.PossibleTags.{ids_same, no_ids, SomeId, own_id, some_id, not_number}

-- ---- the last of two or more numbers

last_behind : (y c : ℕ) (front cs : List ℕ) → last_from y (front ++ c ∷ cs) ≡ last_from c cs
last_behind y c [] cs = refl
last_behind y c (x ∷ front) cs = last_behind x c front cs

last_of : (a : List ℕ) (c : ℕ) (cs : List ℕ) → ((a ≡ []) × (cs ≡ []) → ⊥)
    → last_other (a ++ c ∷ cs) ≡ Some (last_from c cs)
last_of [] c [] two = absurd (two (refl, refl))
last_of [] c (d ∷ cs) two = refl
last_of (x ∷ []) c cs two = refl
last_of (x ∷ y ∷ a) c cs two = ap Some (last_behind y c a cs)

last_in : (n c : ℕ) (cs : List ℕ) → nat_eq n (last_from c cs) ≡ true → list_any (nat_eq n) (c ∷ cs) ≡ true
last_in n c [] is = in_front (nat_eq n c) false is
last_in n c (d ∷ cs) is = behind (nat_eq n c) (list_any (nat_eq n) (d ∷ cs)) (last_in n d cs is)

-- ---- of headers that go on

abbrev pub is_inner : ℕ → List ℕ → Bool
is_inner n ids = is_some_number n (last_other ids)

inner_is : (packet : Packet) (hs rest : List Header) (e : Ending) (n : ℕ)
    → matching (walked packet (hs ++ rest) e) (primitives.InnerVlan n) ≡ is_inner n (vlan_ids hs ++ vlan_ids rest)
inner_is packet hs rest e n = ap (is_inner n) (ids_append hs rest)

no_tags : (hs : List Header) → vlan_ids hs ≡ [] → list_any is_tag hs ≡ false
no_tags [] none = refl
no_tags (headers.Vlan v ∷ hs) none = absurd cc
no_tags (headers.Ethernet2 h ∷ hs) none = no_tags hs none
no_tags (headers.Ethernet2Fcs h ∷ hs) none = no_tags hs none
no_tags (headers.LinuxSll h ∷ hs) none = no_tags hs none
no_tags (headers.Macsec h ∷ hs) none = no_tags hs none
no_tags (headers.Arp h ∷ hs) none = no_tags hs none

-- a list is empty, or has a first number
pub data Ids (hs : List Header) : Type 0 where
  no_id : vlan_ids hs ≡ [] → list_any is_tag hs ≡ false → Ids hs
  first_id : (id : ℕ) (ids : List ℕ) → vlan_ids hs ≡ id ∷ ids → list_any is_tag hs ≡ true → Ids hs

pub ids_of : (hs : List Header) → Ids hs
ids_of hs = by_ids (vlan_ids hs) refl
  where
    by_ids : (ids : List ℕ) → vlan_ids hs ≡ ids → Ids hs
    by_ids [] is = no_id is (no_tags hs is)
    by_ids (id ∷ ids) is = first_id id ids is (has_tag hs id ids is)

-- the identifier of a further tag at the end
inner_last : (n : ℕ) (a : List ℕ) (c : ℕ) (cs ids : List ℕ) → ids ≡ c ∷ cs → ((a ≡ []) × (cs ≡ []) → ⊥)
    → is_inner n (a ++ ids) ≡ nat_eq n (last_from c cs)
inner_last n a c cs ids is two =
    ap (λ (l : List ℕ). is_inner n (a ++ l)) is ∙ ap (is_some_number n) (last_of a c cs two)

inner_none : (n : ℕ) (a ids : List ℕ) (c : ℕ) → a ≡ [] → ids ≡ c ∷ [] → is_inner n (a ++ ids) ≡ false
inner_none n a ids c none is =
    ap (λ (l : List ℕ). is_inner n (l ++ ids)) none ∙ ap (is_inner n) is

inner_end : (n : ℕ) (a ids : List ℕ) → ids ≡ [] → is_inner n (a ++ ids) ≡ is_inner n a
inner_end n a ids none = ap (λ (l : List ℕ). is_inner n (a ++ l)) none ∙ ap (is_inner n) (append-nil a)

other_id : (n : ℕ) → (id : ℕ) × (id < 4096) × (id ≡ n → ⊥)
other_id zero = (1, omega arith, λ e. omega (arith, e))
other_id (suc n) = (0, omega arith, λ e. omega (arith, e))

-- a further identifier that is another one does not match
inner_other : (n id : ℕ) (a ids : List ℕ) → ids ≡ id ∷ [] → (id ≡ n → ⊥) → is_inner n (a ++ ids) ≡ false
inner_other n id a ids is never = by_front a refl
  where
    by_front : (l : List ℕ) → a ≡ l → is_inner n (a ++ ids) ≡ false
    by_front [] none = inner_none n a ids id none is
    by_front (x ∷ l) front =
        inner_last n a id [] ids is (λ both. let gone : x ∷ l ≡ [] = sym front ∙ both.0 in cc) ∙ not_number n id never

tag_ids : (unit : Header) (later : List Header) → is_tag unit ≡ true → (id : ℕ)
    × (vlan_ids (unit ∷ later) ≡ id ∷ vlan_ids later)
tag_ids (headers.Vlan v) later is = (v.vid, refl)
tag_ids (headers.Ethernet2 h) later is = absurd cc
tag_ids (headers.Ethernet2Fcs h) later is = absurd cc
tag_ids (headers.LinuxSll h) later is = absurd cc
tag_ids (headers.Macsec h) later is = absurd cc
tag_ids (headers.Arp h) later is = absurd cc

-- ---- after a VLAN tag whose bytes are not all there

abbrev pub OwnInnerHolds : List Header → List ℕ → ℕ → Prospect → ℕ → Type 0
OwnInnerHolds hs known room p n =
    ((list_any is_tag hs ≡ true) × SomeId known room (λ vid. vid ≡ n)) ⊎ ((n < 4096) × CanTag p 4)

abbrev pub OwnInnerFails : List Header → List ℕ → ℕ → Prospect → ℕ → Type 0
OwnInnerFails hs known room p n =
    (list_any is_tag hs ≡ false) ⊎ (SomeId known room (λ vid. vid ≡ n → ⊥) ⊎ CanTag p 4)

pub own_inner_outcome : (packet : Packet) (hs : List Header) (kind : OpenKind) (known : List ℕ) (room : ℕ)
    (p : Prospect)
    (n : ℕ) (can : Can) → IsOpenAs packet hs kind known room p → is_vlan kind ≡ true → IsTrue p.can_be_accepted
    → IsTrue can.matches ↔ OwnInnerHolds hs known room p n → IsTrue can.fails ↔ OwnInnerFails hs known room p n
    → IsOutcome packet (primitives.InnerVlan n) can
own_inner_outcome packet hs kind known room p n can o own got matches fails = record {
  some_match = λ t. match_by (matches.0 t);
  every_match = every_by packet hs kind known room p
      (λ ks e. matching (walked packet ks e) (primitives.InnerVlan n) ≡ true → IsTrue can.matches) o
      (λ gone e some. absurd (never_refused packet hs kind known room p o own got gone))
      (λ it unit later e f then is. matches.1 (matched unit later f then (ids_of later) (ids_of hs)
      (sym (inner_is packet hs (unit ∷ later) e n) ∙ is)));
  some_fail = λ t. fail_by (fails.0 t);
  every_fail = every_by packet hs kind known room p
      (λ ks e. matching (walked packet ks e) (primitives.InnerVlan n) ≡ false → IsTrue can.fails) o
      (λ gone e some. absurd (never_refused packet hs kind known room p o own got gone))
      (λ it unit later e f then is. fails.1 (failed unit later f then (ids_of later) (ids_of hs)
      (sym (inner_is packet hs (unit ∷ later) e n) ∙ is)));
}
  where
    own_ids : (unit : Header) (later : List Header) → IsFrom (kind_named kind) known room unit
        → (bytes_id : ℕ) × SomeId known room (λ vid. bytes_id ≡ vid)
        × (vlan_ids (unit ∷ later) ≡ bytes_id ∷ vlan_ids later)
    own_ids unit later f =
        let h = own_id packet hs kind known room p o own got unit f in
        (h.tag.vid, (h.bytes, h.on, h.vid), ap (λ (k : Header). vlan_ids (k ∷ later)) h.is)

    matched : (unit : Header) (later : List Header) → IsFrom (kind_named kind) known room unit
        → {e : Ending} → IsAfter p unit later e → Ids later → Ids hs
        → is_inner n (vlan_ids hs ++ vlan_ids (unit ∷ later)) ≡ true → OwnInnerHolds hs known room p n
    matched unit later f then (no_id none gone) (no_id empty untagged) is =
        let w = own_ids unit later f in
        let no_match = inner_none n (vlan_ids hs) (vlan_ids (unit ∷ later)) w.0 empty
        (w.2 ∙ ap (λ (l : List ℕ). w.0 ∷ l) none) in
        absurd (let both : true ≡ false = sym is ∙ no_match in cc)
    matched unit later f then (no_id none gone) (first_id id ids front tagged) is =
        let w = own_ids unit later f in
        let last = inner_last n (vlan_ids hs) w.0 [] (vlan_ids (unit ∷ later))
        (w.2 ∙ ap (λ (l : List ℕ). w.0 ∷ l) none)
        (λ both. let clash : id ∷ ids ≡ [] = sym front ∙ both.0 in cc) in
        let same = eqb-true n w.0 (sym last ∙ is) in
        inl (tagged, (w.1.0, w.1.1, sym w.1.2 ∙ sym same))
    matched unit later f then (first_id c cs more tags) front is =
        let w = own_ids unit later f in
        let last = inner_last n (vlan_ids hs) w.0 (c ∷ cs) (vlan_ids (unit ∷ later))
        (w.2 ∙ ap (λ (l : List ℕ). w.0 ∷ l) more) (λ both. let clash = both.1 in cc) in
        let any : list_any (nat_eq n) (vlan_ids later) ≡ true =
        ap (list_any (nat_eq n)) more ∙ last_in n c cs (sym last ∙ is) in
        inr (then.plain.ids n any, then.tag tags)

    failed : (unit : Header) (later : List Header) → IsFrom (kind_named kind) known room unit
        → {e : Ending} → IsAfter p unit later e → Ids later → Ids hs
        → is_inner n (vlan_ids hs ++ vlan_ids (unit ∷ later)) ≡ false → OwnInnerFails hs known room p n
    failed unit later f then front (no_id empty untagged) is = inl untagged
    failed unit later f then (first_id c cs more tags) (first_id id ids front tagged) is = inr (inr (then.tag tags))
    failed unit later f then (no_id none gone) (first_id id ids front tagged) is =
        let w = own_ids unit later f in
        let last = inner_last n (vlan_ids hs) w.0 [] (vlan_ids (unit ∷ later))
        (w.2 ∙ ap (λ (l : List ℕ). w.0 ∷ l) none)
        (λ both. let clash : id ∷ ids ≡ [] = sym front ∙ both.0 in cc) in
        inr (inl (
          w.1.0,
          w.1.1,
          λ same.
              (let both : true ≡ false = sym (eq-eqb n w.0 (sym (w.1.2 ∙ same))) ∙ sym last ∙ is in cc),
        ))

    tagged_not_empty : list_any is_tag hs ≡ true → vlan_ids hs ≡ [] → ⊥
    tagged_not_empty tagged empty = let both : true ≡ false = sym tagged ∙ no_tags hs empty in cc

    match_by : OwnInnerHolds hs known room p n → SomeCompletion packet (λ w. matching w (primitives.InnerVlan n) ≡ true)
    match_by (inl both) = some_id packet hs kind known room p (λ w. matching w (primitives.InnerVlan n) ≡ true)
        (λ vid. vid ≡ n) o own got both.1
        (λ tag e same. inner_is packet hs (headers.Vlan tag ∷ []) e n
        ∙ inner_last n (vlan_ids hs) tag.vid [] (tag.vid ∷ []) refl (λ empty. tagged_not_empty both.0 empty.0)
        ∙ eq-eqb n tag.vid (sym same))
    match_by (inr later) = some_tag packet hs kind known room p n
        (λ w. matching w (primitives.InnerVlan n) ≡ true) o got later.1 later.0
        (λ unit tag e of_kind is ids.
        (let t = tag_ids unit (tag ∷ []) (tag_of_kind unit kind of_kind ∙ own) in
        inner_is packet hs (unit ∷ tag ∷ []) e n
        ∙ inner_last n (vlan_ids hs) t.0 (n ∷ []) (vlan_ids (unit ∷ tag ∷ []))
        (t.1 ∙ ap (λ (l : List ℕ). t.0 ∷ l) ids) (λ both. let clash = both.1 in cc) ∙ eq-eqb n n refl))

    fail_by : OwnInnerFails hs known room p n → SomeCompletion packet (λ w. matching w (primitives.InnerVlan n) ≡ false)
    fail_by (inl untagged) = some_alone packet hs kind known room p 0
        (λ w. matching w (primitives.InnerVlan n) ≡ false) o got
        (λ unit e f differs last.
        (let w = own_ids unit [] f in
        inner_is packet hs (unit ∷ []) e n
        ∙ inner_none n (vlan_ids hs) (vlan_ids (unit ∷ [])) w.0 (no_ids hs untagged) w.2))
    fail_by (inr (inl other)) = some_id packet hs kind known room p
        (λ w. matching w (primitives.InnerVlan n) ≡ false) (λ vid. vid ≡ n → ⊥) o own got other
        (λ tag e never. inner_is packet hs (headers.Vlan tag ∷ []) e n
        ∙ inner_other n tag.vid (vlan_ids hs) (tag.vid ∷ []) refl never)
    fail_by (inr (inr later)) =
        let id = other_id n in
        some_tag packet hs kind known room p id.0 (λ w. matching w (primitives.InnerVlan n) ≡ false) o got later id.1
        (λ unit tag e of_kind is ids.
        (let t = tag_ids unit (tag ∷ []) (tag_of_kind unit kind of_kind ∙ own) in
        inner_is packet hs (unit ∷ tag ∷ []) e n
        ∙ inner_last n (vlan_ids hs) t.0 (id.0 ∷ []) (vlan_ids (unit ∷ tag ∷ []))
        (t.1 ∙ ap (λ (l : List ℕ). t.0 ∷ l) ids) (λ both. let clash = both.1 in cc) ∙ not_number n id.0 id.2))

-- ---- after another unit

abbrev pub InnerHolds : List Header → Prospect → ℕ → Type 0
InnerHolds hs p n =
    (is_inner n (vlan_ids hs) ≡ true)
    ⊎ (IsTrue p.can_be_accepted × (n < 4096) × (((list_any is_tag hs ≡ true) × CanTag p 4) ⊎ CanTag p 8))

abbrev pub InnerFails : List Header → Prospect → ℕ → Type 0
InnerFails hs p n = (is_inner n (vlan_ids hs) ≡ false) ⊎ (IsTrue p.can_be_accepted × CanTag p 4)

pub inner_outcome : (packet : Packet) (hs : List Header) (kind : OpenKind) (known : List ℕ) (room : ℕ) (p : Prospect)
    (n : ℕ) (can : Can) → IsOpenAs packet hs kind known room p
    → ((is_vlan kind ≡ true) × IsTrue p.can_be_accepted → ⊥) → IsTrue can.matches ↔ InnerHolds hs p n
    → IsTrue can.fails ↔ InnerFails hs p n → IsOutcome packet (primitives.InnerVlan n) can
inner_outcome packet hs kind known room p n can o never matches fails = record {
  some_match = λ t. match_by (matches.0 t);
  every_match = every_by packet hs kind known room p
      (λ ks e. matching (walked packet ks e) (primitives.InnerVlan n) ≡ true → IsTrue can.matches) o
      (λ gone e some is. matches.1 (inl is))
      (λ got unit later e f then is. matches.1 (matched got unit later then (ids_of later) (ids_of hs)
      (sym (own unit later e f got) ∙ is)));
  some_fail = λ t. fail_by (fails.0 t);
  every_fail = every_by packet hs kind known room p
      (λ ks e. matching (walked packet ks e) (primitives.InnerVlan n) ≡ false → IsTrue can.fails) o
      (λ gone e some is. fails.1 (inl is))
      (λ got unit later e f then is. fails.1 (failed got unit later then (ids_of later)
      (sym (own unit later e f got) ∙ is)));
}
  where
    not_vlan : IsTrue p.can_be_accepted → is_vlan kind ≡ false
    not_vlan got = elim (true_or (is_vlan kind)) [ inl is ↦ absurd (never (is, got)) | inr gone ↦ gone ]

    own : (unit : Header) (later : List Header) (e : Ending) → IsFrom (kind_named kind) known room unit
        → IsTrue p.can_be_accepted
        → matching (walked packet (hs ++ unit ∷ later) e) (primitives.InnerVlan n)
        ≡ is_inner n (vlan_ids hs ++ vlan_ids later)
    own unit later e f got =
        inner_is packet hs (unit ∷ later) e n
        ∙ ap (λ (l : List ℕ). is_inner n (vlan_ids hs ++ l))
        (ids_same unit later (tag_of_kind unit kind f.accepts.of_kind ∙ not_vlan got))

    matched : IsTrue p.can_be_accepted → (unit : Header) (later : List Header) → {e : Ending} → IsAfter p unit later e
        → Ids later → Ids hs → is_inner n (vlan_ids hs ++ vlan_ids later) ≡ true → InnerHolds hs p n
    matched got unit later then (no_id none gone) front is =
        inl (sym (inner_end n (vlan_ids hs) (vlan_ids later) none) ∙ is)
    matched got unit later then (first_id c cs more tags) (first_id id ids front tagged) is =
        let last = inner_last n (vlan_ids hs) c cs (vlan_ids later) more
        (λ both. let clash : id ∷ ids ≡ [] = sym front ∙ both.0 in cc) in
        let any : list_any (nat_eq n) (vlan_ids later) ≡ true =
        ap (list_any (nat_eq n)) more ∙ last_in n c cs (sym last ∙ is) in
        inr (got, then.plain.ids n any, inl (tagged, then.tag tags))
    matched got unit later then (first_id c [] more tags) (no_id empty untagged) is =
        let gone = inner_none n (vlan_ids hs) (vlan_ids later) c empty more in
        absurd (let both : true ≡ false = sym is ∙ gone in cc)
    matched got unit later then (first_id c (d ∷ cs) more tags) (no_id empty untagged) is =
        let last = inner_last n (vlan_ids hs) c (d ∷ cs) (vlan_ids later) more (λ both. let clash = both.1 in cc) in
        let any : list_any (nat_eq n) (vlan_ids later) ≡ true =
        ap (list_any (nat_eq n)) more ∙ last_in n c (d ∷ cs) (sym last ∙ is) in
        inr (got, then.plain.ids n any, inr (then.two_tags c d cs more))

    failed : IsTrue p.can_be_accepted → (unit : Header) (later : List Header) → {e : Ending} → IsAfter p unit later e
        → Ids later → is_inner n (vlan_ids hs ++ vlan_ids later) ≡ false → InnerFails hs p n
    failed got unit later then (no_id none gone) is = inl (sym (inner_end n (vlan_ids hs) (vlan_ids later) none) ∙ is)
    failed got unit later then (first_id c cs more tags) is = inr (got, then.tag tags)

    at_end : (b : Bool) → is_inner n (vlan_ids hs) ≡ b
        → SomeCompletion packet (λ w. matching w (primitives.InnerVlan n) ≡ b)
    at_end b is = some_end packet hs kind known room p 0 (λ w. matching w (primitives.InnerVlan n) ≡ b) o
        (λ gone e some. is)
        (λ got unit e f differs last. own unit [] e f got ∙ inner_end n (vlan_ids hs) [] refl ∙ is)

    -- the identifiers after a unit that is no tag
    ids_after : (unit : Header) (later : List Header) (e : Ending) (ids : List ℕ) → IsTrue p.can_be_accepted
        → kind_of unit ≡ kind_named kind → vlan_ids later ≡ ids
        → matching (walked packet (hs ++ unit ∷ later) e) (primitives.InnerVlan n) ≡ is_inner n (vlan_ids hs ++ ids)
    ids_after unit later e ids got of_kind is =
        inner_is packet hs (unit ∷ later) e n
        ∙ ap (λ (l : List ℕ). is_inner n (vlan_ids hs ++ l))
        (ids_same unit later (tag_of_kind unit kind of_kind ∙ not_vlan got) ∙ is)

    match_by : InnerHolds hs p n → SomeCompletion packet (λ w. matching w (primitives.InnerVlan n) ≡ true)
    match_by (inl is) = at_end true is
    match_by (inr (got, lt, inl both)) =
        some_tag packet hs kind known room p n (λ w. matching w (primitives.InnerVlan n) ≡ true) o got both.1 lt
        (λ unit tag e of_kind is ids. ids_after unit (tag ∷ []) e (n ∷ []) got of_kind ids
        ∙ inner_last n (vlan_ids hs) n [] (n ∷ []) refl
        (λ empty. let clash : true ≡ false = sym both.0 ∙ no_tags hs empty.0 in cc) ∙ eq-eqb n n refl)
    match_by (inr (got, lt, inr can)) =
        some_two_tags packet hs kind known room p n (λ w. matching w (primitives.InnerVlan n) ≡ true) o got can lt
        (λ unit first second m e of_kind ids. ids_after unit (first ∷ second ∷ []) e (m ∷ n ∷ []) got of_kind ids
        ∙ inner_last n (vlan_ids hs) m (n ∷ []) (m ∷ n ∷ []) refl (λ both. let clash = both.1 in cc)
        ∙ eq-eqb n n refl)

    fail_by : InnerFails hs p n → SomeCompletion packet (λ w. matching w (primitives.InnerVlan n) ≡ false)
    fail_by (inl is) = at_end false is
    fail_by (inr both) =
        let id = other_id n in
        some_tag packet hs kind known room p id.0
        (λ w. matching w (primitives.InnerVlan n) ≡ false) o both.0 both.1 id.1
        (λ unit tag e of_kind is ids. ids_after unit (tag ∷ []) e (id.0 ∷ []) both.0 of_kind ids
        ∙ inner_other n id.0 (vlan_ids hs) (id.0 ∷ []) refl id.2)
