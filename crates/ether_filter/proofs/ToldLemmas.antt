-- What completed packets can make of a primitive, by what the headers before the open unit say of it.
use Rattle.std.proofs.Common.{◌≡◌, ℕ, List, [], ◌∷◌, ◌++◌, refl, sym, ap, ◌∙◌, inl, inr, Bool, true, false, nat_eq, IsTrue, ◌↔◌}
use Rattle.std.specs.Prelude.{not}
use Rattle.std.specs.List.{list_any}
use Rattle.std.proofs.Math.Bool.{or-false}
use Rattle.std.proofs.lemmas.List.{append-nil}
use Rattle.etherparse.specs.Header.{Header}
use Rattle.ether_peel.specs.Grammar.Stack.{Ending, Accepted, whole}
use Rattle.ether_peel.specs.Walker.Start.{start_of}
use Rattle.ether_filter.specs.declared.can.Can.{Can}
use Rattle.ether_filter.specs.declared.packet.Packet.{Packet}
use Rattle.ether_filter.specs.declared.possible.Told.{Told}
use Rattle.ether_filter.specs.declared.primitive.Primitive.{Primitive}
use Rattle.ether_filter.specs.declared.primitive.Primitive.TheVariants as primitives
use Rattle.ether_filter.specs.declared.prospect.OpenKind.{OpenKind}
use Rattle.ether_filter.specs.declared.prospect.Prospect.{Prospect}
use Rattle.ether_filter.specs.Deciding.{is_refused, is_of_lengths}
use Rattle.ether_filter.specs.Primitives.{is_tag, vlan_ids, walked}
use Rattle.ether_filter.specs.Seen.{matching, first}
use Rattle.ether_filter.specs.TagMarks.{is_some_number}
use Rattle.ether_filter.specs.Later.{IsOpenAs}
use Rattle.ether_filter.specs.Possible.{IsPossible, AreTold}
use Rattle.ether_filter.proofs.Longer.{ids_append}
use Rattle.ether_filter.proofs.Outcomes.{possible_by, some_end}
use Rattle.ether_filter.proofs.PossibleLemmas.{ByTest, test_at_end, test_outcome}
use Rattle.ether_filter.proofs.PossibleInner.{Ids, no_id, first_id, ids_of}
use Rattle.ether_filter.proofs.Truth.{matching_is}

same_bool : (a b : Bool) → (IsTrue a → IsTrue b) → (IsTrue b → IsTrue a) → a ≡ b
same_bool true true f g = refl
same_bool true false f g = sym (f refl)
same_bool false true f g = g refl
same_bool false false f g = refl

-- what is told is what the primitive is of these headers
pub told_is : (packet : Packet) (hs : List Header) (primitive : Primitive) (told : Told) (e : Ending)
    → AreTold packet hs primitive told → is_refused primitive ≡ false
    → matching (walked packet hs e) primitive ≡ told.is_match
told_is packet hs primitive told e a free =
    let m = matching_is (walked packet hs e) primitive in
    let t = a.is_match e free in
    same_bool (matching (walked packet hs e) primitive) told.is_match (λ is. t.1 (m.0 is)) (λ is. m.1 (t.0 is))

pub some_ending : Packet → Ending
some_ending packet = Accepted (whole (start_of packet.start) []) (start_of packet.start)

now_is : (packet : Packet) (hs : List Header) (kind : OpenKind) (known : List ℕ) (room : ℕ) (p : Prospect)
    (primitive : Primitive) (Holds Fails : Type 0) (told : Told)
    → (t : ByTest packet hs kind known room p primitive Holds Fails) → AreTold packet hs primitive told
    → is_refused primitive ≡ false → t.now ≡ told.is_match
now_is packet hs kind known room p primitive Holds Fails told t a free =
    sym (test_at_end packet hs primitive t.now t.test t.is (some_ending packet))
    ∙ told_is packet hs primitive told (some_ending packet) a free

-- the headers so far match
pub told_possible : (packet : Packet) (hs : List Header) (kind : OpenKind) (known : List ℕ) (room : ℕ) (p : Prospect)
    (primitive : Primitive) (Holds Fails : Type 0) (told : Told) (can : Can) → IsOpenAs packet hs kind known room p
    → ByTest packet hs kind known room p primitive Holds Fails → AreTold packet hs primitive told
    → is_refused primitive ≡ false → told.is_match ≡ true → can.matches ≡ true → can.fails ≡ false
    → IsPossible packet primitive can
told_possible packet hs kind known room p primitive Holds Fails told can o t a free is matches fails =
    let now = now_is packet hs kind known room p primitive Holds Fails told t a free ∙ is in
    possible_by packet primitive can (test_outcome packet hs kind known room p primitive t.now t.test Holds Fails can o
    t.is t.conditions (λ it. inl now, λ it. matches) (
      λ it. (let gone : false ≡ true = sym fails ∙ it in absurd cc),
      λ both. (let gone : true ≡ false = sym now ∙ both.0 in absurd cc),
    ))

-- .. do not match
pub open_possible : (packet : Packet) (hs : List Header) (kind : OpenKind) (known : List ℕ) (room : ℕ) (p : Prospect)
    (primitive : Primitive) (Holds Fails : Type 0) (told : Told) (can : Can) → IsOpenAs packet hs kind known room p
    → ByTest packet hs kind known room p primitive Holds Fails → AreTold packet hs primitive told
    → is_refused primitive ≡ false → told.is_match ≡ false → IsTrue can.matches ↔ Holds → IsTrue can.fails ↔ Fails
    → IsPossible packet primitive can
open_possible packet hs kind known room p primitive Holds Fails told can o t a free is matches fails =
    let now = now_is packet hs kind known room p primitive Holds Fails told t a free ∙ is in
    possible_by packet primitive can (test_outcome packet hs kind known room p primitive t.now t.test Holds Fails can o
    t.is t.conditions (
      λ it. inr (matches.0 it),
      λ it. elim it [
        | inl got ↦ (let gone : true ≡ false = sym got ∙ now in absurd cc)
        | inr holds ↦ matches.1 holds
      ],
    )
    (λ it. (now, fails.0 it), λ both. fails.1 both.1))

-- no further headers tell anything
pub decided_possible : (packet : Packet) (hs : List Header) (kind : OpenKind) (known : List ℕ) (room : ℕ) (p : Prospect)
    (primitive : Primitive) (told : Told) (can : Can) → IsOpenAs packet hs kind known room p
    → ByTest packet hs kind known room p primitive ⊥ (Unit {0}) → AreTold packet hs primitive told
    → is_refused primitive ≡ false → can.matches ≡ told.is_match → can.fails ≡ not told.is_match
    → IsPossible packet primitive can
decided_possible packet hs kind known room p primitive told can o t a free matches fails =
    let now = now_is packet hs kind known room p primitive ⊥ (Unit {0}) told t a free in
    possible_by packet primitive can (test_outcome packet hs kind known room p primitive t.now t.test ⊥ (Unit {0}) can o
    t.is t.conditions
    (λ it. inl (now ∙ sym matches ∙ it), λ it. elim it [ inl got ↦ matches ∙ sym now ∙ got | inr gone ↦ absurd gone ])
    (λ it. (now ∙ not_true told.is_match (sym fails ∙ it), tt), λ both. fails ∙ ap not (sym now ∙ both.0)))
  where
    not_true : (b : Bool) → not b ≡ true → b ≡ false
    not_true true is = absurd cc
    not_true false is = refl

-- ---- what does not change

constant : (packet : Packet) (hs : List Header) (kind : OpenKind) (known : List ℕ) (room : ℕ) (p : Prospect)
    (primitive : Primitive) (now : Bool) → IsOpenAs packet hs kind known room p
    → ((rest : List Header) (e : Ending) → matching (walked packet (hs ++ rest) e) primitive ≡ now)
    → ByTest packet hs kind known room p primitive ⊥ (Unit {0})
constant packet hs kind known room p primitive now o is = record {
  now = now;
  test = λ rest. false;
  is = record { splits = λ rest e. is rest e ∙ sym (or-false now); none = refl };
  conditions = record {
    some = λ gone. absurd gone;
    every = λ got unit later e f then gone. cc;
    some_not = λ it. some_end packet hs kind known room p 0
        (λ w. (rest : List Header) × (w.headers ≡ hs ++ rest) × (false ≡ false)) o
        (λ gone e some. ([], sym (append-nil hs), refl)) (λ got unit e f differs last. (unit ∷ [], refl, refl));
    refused_not = λ gone. tt;
    every_not = λ got unit later e f then is. tt;
  };
}

-- the two lengths
pub lengths_by : (packet : Packet) (hs : List Header) (kind : OpenKind) (known : List ℕ) (room : ℕ) (p : Prospect)
    (primitive : Primitive) → IsOpenAs packet hs kind known room p → is_of_lengths primitive ≡ true
    → ByTest packet hs kind known room p primitive ⊥ (Unit {0})
lengths_by packet hs kind known room p primitive o of =
    constant packet hs kind known room p primitive (matching (walked packet hs (some_ending packet)) primitive) o
    (λ rest e. by_kind primitive of rest e)
  where
    by_kind : (q : Primitive) → is_of_lengths q ≡ true → (rest : List Header) (e : Ending)
        → matching (walked packet (hs ++ rest) e) q ≡ matching (walked packet hs (some_ending packet)) q
    by_kind primitives.Cut is rest e = refl
    by_kind (primitives.Less n) is rest e = refl
    by_kind (primitives.Greater n) is rest e = refl
    by_kind (primitives.Frame t) is rest e = refl
    by_kind q is rest e = absurd cc

-- the first of some identifiers
pub first_by : (packet : Packet) (hs : List Header) (kind : OpenKind) (known : List ℕ) (room : ℕ) (p : Prospect) (n : ℕ)
    → IsOpenAs packet hs kind known room p → list_any is_tag hs ≡ true
    → ByTest packet hs kind known room p (primitives.OuterVlan n) ⊥ (Unit {0})
first_by packet hs kind known room p n o tagged = by_ids (ids_of hs)
  where
    by_ids : Ids hs → ByTest packet hs kind known room p (primitives.OuterVlan n) ⊥ (Unit {0})
    by_ids (no_id none untagged) = absurd (let gone : true ≡ false = sym tagged ∙ untagged in cc)
    by_ids (first_id id ids is it) =
        constant packet hs kind known room p (primitives.OuterVlan n) (nat_eq n id) o
        (λ rest e. ap (λ (l : List ℕ). is_some_number n (first l)) (ids_append hs rest)
        ∙ ap (λ (l : List ℕ). is_some_number n (first (l ++ vlan_ids rest))) is)
