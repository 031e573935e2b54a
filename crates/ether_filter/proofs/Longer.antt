-- What tests say of a list of headers that goes on.
use Rattle.std.proofs.Common.{◌≡◌, ℕ, List, [], ◌∷◌, ◌++◌, append_assoc, refl, sym, ap, subst, ◌∙◌, Bool, true, false, cond, ◌||◌, nat_eq, IsTrue, ◌↔◌}
use Rattle.std.specs.Prelude.{Option, Some, None, is_some, unwrap_or, ◌==◌, ◌&&◌, if◌then◌else◌}
use Rattle.std.specs.List.{list_any}
use Rattle.std.proofs.Common.{◌≤◌, arith}
use Rattle.std.proofs.lemmas.Bool.{ne_eqb}
use Rattle.ether_filter.specs.declared.field_test.FieldTest.{FieldTest}
use Rattle.std.proofs.Math.Bool.{or-false}
use Rattle.std.proofs.lemmas.List.{append-nil}
use Rattle.std.proofs.lemmas.List.Folds.{list_any-append}
use Rattle.etherparse.specs.Types.LinuxSllProtocolType.{LinuxSllProtocolType}
use Rattle.etherparse.specs.LinuxSllProtocolType.{link_protocol_of}
use Rattle.etherparse.specs.Vlan.{is_vlan_ether_type}
use Rattle.etherparse.specs.Macsec.{PayloadType}
use Rattle.etherparse.specs.Macsec as payloads
use Rattle.etherparse.specs.Kind as kinds
use Rattle.etherparse.specs.Header.{Header, kind_of}
use Rattle.etherparse.specs.Header as headers
use Rattle.ether_peel.specs.Grammar.Window.{Window, payload}
use Rattle.ether_peel.specs.Grammar.Expectation.{Expectation, Next, EtherType, Sll, announced, announced_by, announced_next, next_after, after_payload, after}
use Rattle.ether_peel.specs.Grammar.Stack.{Ending, Stack}
use Rattle.ether_peel.proofs.Grammar.Announced.{announced_is}
use Rattle.ether_peel.proofs.Grammar.Carrying.{NoFcs, no_fcs_after}
use Rattle.ether_filter.specs.Primitives.{is_from, is_to, is_to_group, vlan_ids, ether_type_of, listed, ether_types}
use Rattle.ether_filter.specs.Deciding.{asks_any}
use Rattle.ether_filter.specs.FieldTests.{hit, has_value, has_hit, answer, field_holds}
use Rattle.ether_filter.specs.declared.field_test.Relation.{Relation}
use Rattle.ether_filter.specs.declared.field_test.Relation.TheVariants as relations
use Rattle.ether_filter.proofs.Truth.{same_truth}

-- ---- tests of headers

or_left : (a b : Bool) → IsTrue a → IsTrue (a || b)
or_left true b t = t
or_left false b t = absurd cc

any_front : {X : Type 0} (test : X → Bool) (xs ys : List X) → IsTrue (list_any test xs)
    → IsTrue (list_any test (xs ++ ys))
any_front test xs ys t =
    subst IsTrue (sym (list_any-append test xs ys)) (or_left (list_any test xs) (list_any test ys) t)

pub any_same : {X : Type 0} (test : X → Bool) (xs ys : List X) → list_any test ys ≡ false
    → list_any test xs ≡ list_any test (xs ++ ys)
any_same test xs ys none =
    sym (list_any-append test xs ys ∙ ap (λ b. list_any test xs || b) none ∙ or-false (list_any test xs))

-- ---- identifiers and ether types

pub ids_append : (hs rest : List Header) → vlan_ids (hs ++ rest) ≡ vlan_ids hs ++ vlan_ids rest
ids_append [] rest = refl
ids_append (headers.Vlan v ∷ hs) rest = ap (λ (l : List ℕ). v.vid ∷ l) (ids_append hs rest)
ids_append (headers.Ethernet2 v ∷ hs) rest = ids_append hs rest
ids_append (headers.Ethernet2Fcs v ∷ hs) rest = ids_append hs rest
ids_append (headers.LinuxSll v ∷ hs) rest = ids_append hs rest
ids_append (headers.Macsec v ∷ hs) rest = ids_append hs rest
ids_append (headers.Arp v ∷ hs) rest = ids_append hs rest

-- the ether types that headers announce
abbrev pub types_after : List Header → List ℕ
types_after [] = []
types_after (h ∷ hs) = ether_types (next_after h) hs

pub types_append : (next : Next) (hs rest : List Header)
    → ether_types next (hs ++ rest) ≡ ether_types next hs ++ types_after rest
types_append next [] [] = sym (append-nil (listed (ether_type_of next)))
types_append next [] (h ∷ rest) = refl
types_append next (h ∷ hs) rest =
    ap (λ (l : List ℕ). listed (ether_type_of next) ++ l) (types_append (next_after h) hs rest)
    ∙ sym (append_assoc (listed (ether_type_of next)) (ether_types (next_after h) hs) (types_after rest))

-- ---- a test of a field whose value is found

both_true : (a b : Bool) → IsTrue (a && b) → IsTrue a × IsTrue b
both_true true b t = (refl, t)
both_true false b t = absurd cc

-- an answer that asks for any value remains
answer_told : (r : Relation) (a b c d : Bool) → IsTrue (asks_any r && answer r a b) → (IsTrue a → IsTrue c)
    → (IsTrue b → IsTrue d) → IsTrue (answer r a b) ↔ IsTrue (answer r c d)
answer_told relations.NotEqual a b c d t some any = absurd cc
answer_told relations.Exists a b c d t some any = let u = both_true true a t in (λ m. some m, λ m. u.1)
answer_told r a b c d t some any = let u = both_true true b t in (λ m. any m, λ m. u.1)

pub told_same : (t : FieldTest) (hs rest : List Header) → IsTrue (asks_any t.relation && field_holds t hs)
    → IsTrue (field_holds t hs) ↔ IsTrue (field_holds t (hs ++ rest))
told_same t hs rest told =
    answer_told t.relation (has_value t hs) (has_hit t hs) (has_value t (hs ++ rest)) (has_hit t (hs ++ rest)) told
    (λ any. any_front (λ h. is_some (hit t h)) hs rest any)
    (λ any. any_front (λ h. unwrap_or (hit t h) false) hs rest any)

-- ---- headers that tell nothing

abbrev pub is_link : Header → Bool
is_link (headers.Ethernet2 e) = true
is_link (headers.Ethernet2Fcs e) = true
is_link _ = false

pub none_by : (test : Header → Bool) → ((h : Header) → is_link h ≡ false → test h ≡ false) → (hs : List Header)
    → list_any is_link hs ≡ false → list_any test hs ≡ false
none_by test less [] none = refl
none_by test less (headers.Ethernet2 v ∷ hs) none = absurd cc
none_by test less (headers.Ethernet2Fcs v ∷ hs) none = absurd cc
none_by test less (headers.Vlan v ∷ hs) none = rw (less (headers.Vlan v) refl) (none_by test less hs none)
none_by test less (headers.LinuxSll v ∷ hs) none = rw (less (headers.LinuxSll v) refl) (none_by test less hs none)
none_by test less (headers.Macsec v ∷ hs) none = rw (less (headers.Macsec v) refl) (none_by test less hs none)
none_by test less (headers.Arp v ∷ hs) none = rw (less (headers.Arp v) refl) (none_by test less hs none)

pub from_is_link : (a : ℕ) (h : Header) → is_link h ≡ false → is_from a h ≡ false
from_is_link a (headers.Ethernet2 v) never = absurd cc
from_is_link a (headers.Ethernet2Fcs v) never = absurd cc
from_is_link a h never = refl

pub to_is_link : (a : ℕ) (h : Header) → is_link h ≡ false → is_to a h ≡ false
to_is_link a (headers.Ethernet2 v) never = absurd cc
to_is_link a (headers.Ethernet2Fcs v) never = absurd cc
to_is_link a h never = refl

pub group_is_link : (h : Header) → is_link h ≡ false → is_to_group h ≡ false
group_is_link (headers.Ethernet2 v) never = absurd cc
group_is_link (headers.Ethernet2Fcs v) never = absurd cc
group_is_link h never = refl

-- fields of Ethernet II are in no other header
no_link_hit : (t : FieldTest) (h : Header) → t.field ≤ 3 → is_link h ≡ false → hit t h ≡ None
no_link_hit t (headers.Ethernet2 v) le never = absurd cc
no_link_hit t (headers.Ethernet2Fcs v) le never = absurd cc
no_link_hit t (headers.LinuxSll s) le never =
    rw (
      ne_eqb t.field 4 (omega (arith, le)),
      ne_eqb t.field 5 (omega (arith, le)),
      ne_eqb t.field 6 (omega (arith, le)),
      ne_eqb t.field 7 (omega (arith, le)),
      ne_eqb t.field 8 (omega (arith, le)),
      ne_eqb t.field 252 (omega (arith, le)),
    ) refl
no_link_hit t (headers.Vlan v) le never =
    rw (
      ne_eqb t.field 9 (omega (arith, le)),
      ne_eqb t.field 10 (omega (arith, le)),
      ne_eqb t.field 11 (omega (arith, le)),
      ne_eqb t.field 12 (omega (arith, le)),
      ne_eqb t.field 252 (omega (arith, le)),
    ) refl
no_link_hit t (headers.Macsec v) le never =
    rw (
      ne_eqb t.field 14 (omega (arith, le)),
      ne_eqb t.field 16 (omega (arith, le)),
      ne_eqb t.field 17 (omega (arith, le)),
      ne_eqb t.field 18 (omega (arith, le)),
      ne_eqb t.field 19 (omega (arith, le)),
      ne_eqb t.field 21 (omega (arith, le)),
      ne_eqb t.field 22 (omega (arith, le)),
      ne_eqb t.field 23 (omega (arith, le)),
      ne_eqb t.field 24 (omega (arith, le)),
      ne_eqb t.field 252 (omega (arith, le)),
    ) refl
no_link_hit t (headers.Arp v) le never =
    rw (
      ne_eqb t.field 25 (omega (arith, le)),
      ne_eqb t.field 26 (omega (arith, le)),
      ne_eqb t.field 27 (omega (arith, le)),
      ne_eqb t.field 28 (omega (arith, le)),
      ne_eqb t.field 29 (omega (arith, le)),
      ne_eqb t.field 30 (omega (arith, le)),
      ne_eqb t.field 31 (omega (arith, le)),
      ne_eqb t.field 32 (omega (arith, le)),
      ne_eqb t.field 33 (omega (arith, le)),
      ne_eqb t.field 252 (omega (arith, le)),
    ) refl

pub link_same : (t : FieldTest) (hs rest : List Header) → t.field ≤ 3 → list_any is_link rest ≡ false
    → IsTrue (field_holds t hs) ↔ IsTrue (field_holds t (hs ++ rest))
link_same t hs rest le none =
    let some = any_same (λ h. is_some (hit t h)) hs rest
    (none_by (λ h. is_some (hit t h)) (λ h never. ap is_some (no_link_hit t h le never)) rest none) in
    let any = any_same (λ h. unwrap_or (hit t h) false) hs rest
    (none_by (λ h. unwrap_or (hit t h) false)
    (λ h never. ap (λ (o : Option Bool). unwrap_or o false) (no_link_hit t h le never)) rest none) in
    same_truth (λ i. answer t.relation (some i) (any i))

-- ---- what a stack has no headers of

-- no Ethernet II header is announced
abbrev pub NoLink : Expectation → Type 0
NoLink x = announced x ≡ Some kinds.Ethernet2 → ⊥

no_link_cond : (a b c : Bool)
    → cond a (Some kinds.Vlan) (cond b (Some kinds.Macsec) (cond c (Some kinds.Arp) None)) ≡ Some kinds.Ethernet2 → ⊥
no_link_cond true b c e = cc
no_link_cond false true c e = cc
no_link_cond false false true e = cc
no_link_cond false false false e = cc

no_link_announced : (t : ℕ) → announced_by t ≡ Some kinds.Ethernet2 → ⊥
no_link_announced t e = no_link_cond (is_vlan_ether_type t) (nat_eq t 0x88E5) (nat_eq t 0x0806) e

abbrev NextNoLink : Next → Type 0
NextNoLink y = announced_next y ≡ Some kinds.Ethernet2 → ⊥

no_link_capture : (is_ethernet : Bool) (n : ℕ) (q : LinuxSllProtocolType)
    → NextNoLink (if is_ethernet then EtherType n else Sll q)
no_link_capture true n q e = no_link_announced n e
no_link_capture false n q e = cc

no_link_payload : (p : PayloadType) → NextNoLink (after_payload p)
no_link_payload (payloads.Unmodified t) e = no_link_announced t e
no_link_payload payloads.Modified e = cc
no_link_payload payloads.EncryptedUnmodified e = cc
no_link_payload payloads.Encrypted e = cc

no_link_next : (h : Header) → NextNoLink (next_after h)
no_link_next (headers.Ethernet2 a) e = no_link_announced a.ether_type e
no_link_next (headers.Ethernet2Fcs a) e = no_link_announced a.ether_type e
no_link_next (headers.LinuxSll s) e =
    no_link_capture (s.hardware_type == 1) s.protocol (link_protocol_of s.hardware_type s.protocol) e
no_link_next (headers.Vlan v) e = no_link_announced v.ether_type e
no_link_next (headers.Macsec t) e = no_link_payload t.payload_type e
no_link_next (headers.Arp a) e = cc

pub no_link_after : (x : Expectation) (h : Header) → NoLink (after x h)
no_link_after x h e = no_link_next h (announced_is (after x h) kinds.Ethernet2 e)

not_link : (x : Expectation) (h : Header) → NoLink x → NoFcs x → announced x ≡ Some (kind_of h) → is_link h ≡ false
not_link x (headers.Ethernet2 v) never none is = absurd (never is)
not_link x (headers.Ethernet2Fcs v) never none is = absurd (none is)
not_link x h never none is = refl

pub no_links : (list : List ℕ) (x : Expectation) (w : Window) (hs : List Header) (e : Ending) → NoLink x → NoFcs x
    → Stack list x w hs e → list_any is_link hs ≡ false
no_links list x w [] e never none s = refl
no_links list x w (h ∷ hs) e never none s =
    rw (not_link x h never none s.0.announced)
    (no_links list (after x h) (payload w h) hs e (no_link_after x h) (no_fcs_after x h) s.1)
