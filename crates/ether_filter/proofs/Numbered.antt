-- The primitives that have numbers, and whether they match.
use Rattle.std.proofs.Common.{◌≡◌, ℕ, ◌-◌, ◌<◌, ◌≤◌, List, arith, refl, ap, sym, subst, ◌∙◌, inl, inr, Bool, true, false, IsTrue, ◌↔◌}
use Rattle.std.specs.Prelude.{Option, Some, None, nat_eq, nat_lt, nat_le, ◌||◌, if◌then◌else◌}
use Rattle.std.specs.Option.{option_map}
use Rattle.std.proofs.lemmas.Bool.{cases_lt, ltb-true, lt-ltb, leb-true, le-leb, ne_eqb}
use Rattle.ether_filter.specs.declared.field_test.Relation.{Relation}
use Rattle.ether_filter.specs.declared.instruction.Instruction.{Instruction}
use Rattle.ether_filter.specs.declared.primitive.Primitive.{Primitive}
use Rattle.ether_filter.specs.declared.primitive.Primitive.TheVariants as primitives
use Rattle.ether_filter.specs.declared.seen.Seen.{Seen}
use Rattle.ether_filter.specs.Deciding.{is_of_lengths, is_of_field}
use Rattle.ether_filter.specs.FieldTests.{Frame, frame_holds}
use Rattle.ether_filter.specs.FilterProgram.{primitive_numbered, relation_numbered, frame_relation_numbered, field_test_in, field_primitive, frame_primitive, primitive_or, primitive_of, capture_truth, truth_or, frame_test_of}
use Rattle.ether_filter.specs.declared.field_test.FieldTest.{FieldTest}
use Rattle.ether_filter.specs.Primitives.{Walked, frame_in, Matches}
use Rattle.ether_filter.specs.Seen.{seen, seen_truth, length_truth}
use Rattle.ether_filter.proofs.Truth.{same_truth}

-- ---- a primitive with a number has a word of its own

abbrev is_test : Primitive → Bool
is_test (primitives.Field t) = true
is_test (primitives.Frame t) = true
is_test p = false

abbrev pub AreNoTests : Option Primitive → Type 0
AreNoTests o = (p : Primitive) → o ≡ Some p → is_test p ≡ false

none_is : AreNoTests None
none_is p is = absurd cc

either : (b : Bool) (q : Primitive) (o : Option Primitive) → is_test q ≡ false → AreNoTests o
    → AreNoTests (if b then Some q else o)
either true q o here rest p is = let same : q ≡ p = cc in ap is_test (sym same) ∙ here
either false q o here rest p is = rest p is

pub no_test : (kind operand : ℕ) → AreNoTests (primitive_numbered kind operand)
no_test kind operand =
    either (nat_eq kind 0) _ _ refl (either (nat_eq kind 1) _ _ refl (either (nat_eq kind 2) _ _ refl
    (either (nat_eq kind 3) _ _ refl (either (nat_eq kind 4) _ _ refl (either (nat_eq kind 5) _ _ refl
    (either (nat_eq kind 6) _ _ refl (either (nat_eq kind 7) _ _ refl (either (nat_eq kind 8) _ _ refl
    (either (nat_eq kind 9) _ _ refl (either (nat_eq kind 10) _ _ refl (either (nat_eq kind 11) _ _ refl
    (either (nat_eq kind 12) _ _ refl (either (nat_eq kind 13) _ _ refl (either (nat_eq kind 14) _ _ refl
    none_is))))))))))))))

-- ---- whether it matches

-- what was seen says it
pub record IsSeen (o : Option Primitive) (s : Seen) (ids : List ℕ) (b : Bool) : Type 0 where
  pub primitive : Primitive
  pub is : o ≡ Some primitive
  pub no_lengths : is_of_lengths primitive ≡ false
  pub no_field : is_of_field primitive ≡ false
  pub truth : seen primitive s ids ≡ b

seen_one : (p : Primitive) (lengths field : Bool) (s : Seen) (ids : List ℕ) (b : Bool) → is_of_lengths p ≡ lengths
    → is_of_field p ≡ field → (if lengths || field then None else Some (seen p s ids)) ≡ Some b
    → IsSeen (Some p) s ids b
seen_one p true field s ids b lengths fields is = absurd cc
seen_one p false true s ids b lengths fields is = absurd cc
seen_one p false false s ids b lengths fields is =
    record { primitive = p; is = refl; no_lengths = lengths; no_field = fields; truth = cc }

pub seen_some : (o : Option Primitive) (s : Seen) (ids : List ℕ) (b : Bool) → seen_truth o s ids ≡ Some b
    → IsSeen o s ids b
seen_some None s ids b is = absurd cc
seen_some (Some p) s ids b is = seen_one p (is_of_lengths p) (is_of_field p) s ids b refl refl is

-- the two lengths say it
pub record IsOfLengths (o : Option Primitive) (captured original : ℕ) (b : Bool) : Type 0 where
  pub primitive : Primitive
  pub is : o ≡ Some primitive
  pub iff : (w : Walked) → w.captured ≡ captured → w.original ≡ original → IsTrue b ↔ Matches primitive w

pub length_some : (o : Option Primitive) (captured original : ℕ) (b : Bool) → length_truth o captured original ≡ Some b
    → IsOfLengths o captured original b
length_some (Some primitives.Cut) c n b is =
    let same : nat_lt c n ≡ b = cc in
    record {
      primitive = primitives.Cut;
      is = refl;
      iff = λ w captured original. rw (captured, original, sym same) (ltb-true c n, lt-ltb c n);
    }
length_some (Some (primitives.Less m)) c n b is =
    let same : nat_le n m ≡ b = cc in
    record {
      primitive = primitives.Less m;
      is = refl;
      iff = λ w captured original. rw (original, sym same) (leb-true n m, le-leb n m);
    }
length_some (Some (primitives.Greater m)) c n b is =
    let same : nat_le m n ≡ b = cc in
    record {
      primitive = primitives.Greater m;
      is = refl;
      iff = λ w captured original. rw (original, sym same) (leb-true m n, le-leb m n);
    }
length_some _ c n b is = absurd cc

-- neither says it
pub no_length : (p : Primitive) (c n : ℕ) → is_test p ≡ false → length_truth (Some p) c n ≡ None → is_of_lengths p ≡
    false
no_length primitives.Cut c n plain is = absurd cc
no_length (primitives.Less m) c n plain is = absurd cc
no_length (primitives.Greater m) c n plain is = absurd cc
no_length (primitives.Frame t) c n plain is = absurd cc
no_length _ c n plain is = refl

pub no_field : (p : Primitive) → is_test p ≡ false → is_of_field p ≡ false
no_field (primitives.Field t) plain = absurd cc
no_field _ plain = refl

no_truth : (p : Primitive) (s : Seen) (ids : List ℕ) → is_of_lengths p ≡ false → is_of_field p ≡ false
    → seen_truth (Some p) s ids ≡ Some (seen p s ids)
no_truth p s ids lengths field = rw (lengths, field) refl

pub no_primitive : (o : Option Primitive) (s : Seen) (ids : List ℕ) (c n : ℕ) → AreNoTests o
    → seen_truth o s ids ≡ None → length_truth o c n ≡ None → o ≡ None
no_primitive None s ids c n are seen_none length_none = refl
no_primitive (Some p) s ids c n are seen_none length_none =
    let plain = are p refl in
    let some = no_truth p s ids (no_length p c n plain length_none) (no_field p plain) in
    absurd cc

-- ---- the primitive of an instruction

pub numbered_is : (s : Instruction) (p : Primitive) → primitive_numbered s.kind s.operand ≡ Some p
    → primitive_of s ≡ Some p
numbered_is s p is = rw is refl

tests_none : (s : Instruction) (o : Option Relation) → option_map (λ r. field_test_in r s) o ≡ None
    → field_primitive o s ≡ None
tests_none s None is = refl
tests_none s (Some r) is = absurd cc

pub none_of : (s : Instruction) → primitive_numbered s.kind s.operand ≡ None
    → option_map (λ r. field_test_in r s) (relation_numbered s.kind) ≡ None → frame_relation_numbered s.kind ≡ None
    → primitive_of s ≡ None
none_of s none is no_frame =
    (λ i. primitive_or (none i)
    (primitive_or (tests_none s (relation_numbered s.kind) is i) (frame_primitive (no_frame i) s)))

-- ---- what the capture says

skip : {A : Type 0} (b : Bool) (x y : A) → b ≡ false → (if b then x else y) ≡ y
skip true x y is = absurd cc
skip false x y is = refl

differs : (k n m : ℕ) → n < m → m ≤ k → nat_eq k n ≡ false
differs k n m lt le = ne_eqb k n (λ same. omega (arith, lt, le, same))

-- kinds from 25 on are those of nothing else
no_number : (k operand : ℕ) → 25 ≤ k → primitive_numbered k operand ≡ None
no_number k operand le =
    skip (nat_eq k 0) _ _ (differs k 0 25 (omega arith) le) ∙ skip (nat_eq k 1) _ _ (differs k 1 25 (omega arith) le)
    ∙ skip (nat_eq k 2) _ _ (differs k 2 25 (omega arith) le) ∙ skip (nat_eq k 3) _ _ (differs k 3 25 (omega arith) le)
    ∙ skip (nat_eq k 4) _ _ (differs k 4 25 (omega arith) le) ∙ skip (nat_eq k 5) _ _ (differs k 5 25 (omega arith) le)
    ∙ skip (nat_eq k 6) _ _ (differs k 6 25 (omega arith) le) ∙ skip (nat_eq k 7) _ _ (differs k 7 25 (omega arith) le)
    ∙ skip (nat_eq k 8) _ _ (differs k 8 25 (omega arith) le) ∙ skip (nat_eq k 9) _ _ (differs k 9 25 (omega arith) le)
    ∙ skip (nat_eq k 10) _ _ (differs k 10 25 (omega arith) le)
    ∙ skip (nat_eq k 11) _ _ (differs k 11 25 (omega arith) le)
    ∙ skip (nat_eq k 12) _ _ (differs k 12 25 (omega arith) le)
    ∙ skip (nat_eq k 13) _ _ (differs k 13 25 (omega arith) le)
    ∙ skip (nat_eq k 14) _ _ (differs k 14 25 (omega arith) le)

no_relation : (k : ℕ) → ((n : ℕ) → 18 ≤ n → n < 25 → nat_eq k n ≡ false) → relation_numbered k ≡ None
no_relation k never =
    skip (nat_eq k 18) _ _ (never 18 (omega arith) (omega arith))
    ∙ skip (nat_eq k 19) _ _ (never 19 (omega arith) (omega arith))
    ∙ skip (nat_eq k 20) _ _ (never 20 (omega arith) (omega arith))
    ∙ skip (nat_eq k 21) _ _ (never 21 (omega arith) (omega arith))
    ∙ skip (nat_eq k 22) _ _ (never 22 (omega arith) (omega arith))
    ∙ skip (nat_eq k 23) _ _ (never 23 (omega arith) (omega arith))
    ∙ skip (nat_eq k 24) _ _ (never 24 (omega arith) (omega arith))

frame_kind : (k : ℕ) (r : Relation) → frame_relation_numbered k ≡ Some r → 25 ≤ k
frame_kind k r is = elim (cases_lt k 25) [
  | inl lt ↦ absurd
      (let none =
      no_relation (k - 7) (λ n some few. ne_eqb (k - 7) n (λ same. omega (arith, lt, some, few, same))) in
      let clash : Some r ≡ None = sym is ∙ none in
      cc)
  | inr le ↦ le
]

frame_is : (s : Instruction) (r : Relation) → frame_relation_numbered s.kind ≡ Some r
    → primitive_of s ≡ Some (primitives.Frame (field_test_in r s))
frame_is s r is =
    let le = frame_kind s.kind r is in
    let none = no_number s.kind s.operand le in
    let no_test = no_relation s.kind (λ n some few. differs s.kind n 25 few le) in
    (λ i. primitive_or (none i) (primitive_or (field_primitive (no_test i) s) (frame_primitive (is i) s)))

-- the capture says whether the primitive of an instruction matches
pub record IsOfCapture (s : Instruction) (f : Frame) (b : Bool) : Type 0 where
  pub primitive : Primitive
  pub is : primitive_of s ≡ Some primitive
  pub iff : (w : Walked) → frame_in w ≡ f → IsTrue b ↔ Matches primitive w

by_truth : (s : Instruction) (f : Frame) (b : Bool) (o : Option Bool) (q : Option Relation)
    → length_truth (primitive_numbered s.kind s.operand) f.captured f.original ≡ o → frame_relation_numbered s.kind ≡ q
    → truth_or o (option_map (λ t. frame_holds t f) (option_map (λ r. field_test_in r s) q)) ≡ Some b
    → IsOfCapture s f b
by_truth s f b (Some t) q here there is =
    let same : t ≡ b = cc in
    let l = length_some (primitive_numbered s.kind s.operand) f.captured f.original t here in
    record {
      primitive = l.primitive;
      is = numbered_is s l.primitive l.is;
      iff = λ w at. subst (λ (c : Bool). IsTrue c ↔ Matches l.primitive w) same
          (l.iff w (ap (λ (g : Frame). g.captured) at) (ap (λ (g : Frame). g.original) at));
    }
by_truth s f b None (Some r) here there is =
    let same : frame_holds (field_test_in r s) f ≡ b = cc in
    record {
      primitive = primitives.Frame (field_test_in r s);
      is = frame_is s r there;
      iff = λ w at. same_truth (sym same ∙ ap (frame_holds (field_test_in r s)) (sym at));
    }
by_truth s f b None None here there is = absurd cc

pub capture_some : (s : Instruction) (f : Frame) (b : Bool) → capture_truth s f ≡ Some b → IsOfCapture s f b
capture_some s f b is =
    by_truth s f b (length_truth (primitive_numbered s.kind s.operand) f.captured f.original)
    (frame_relation_numbered s.kind) refl refl is

-- .. or does not
no_truth_in : (s : Instruction) (f : Frame) (o : Option Bool) (q : Option Relation)
    → truth_or o (option_map (λ t. frame_holds t f) (option_map (λ r. field_test_in r s) q)) ≡ None
    → (o ≡ None) × (q ≡ None)
no_truth_in s f (Some t) q is = absurd cc
no_truth_in s f None (Some r) is = absurd cc
no_truth_in s f None None is = (refl, refl)

pub capture_none : (s : Instruction) (f : Frame) → capture_truth s f ≡ None
    → (length_truth (primitive_numbered s.kind s.operand) f.captured f.original ≡ None)
    × (frame_relation_numbered s.kind ≡ None)
capture_none s f is =
    no_truth_in s f (length_truth (primitive_numbered s.kind s.operand) f.captured f.original)
    (frame_relation_numbered s.kind) is

truth_or_none : (o : Option Bool) → truth_or o None ≡ o
truth_or_none None = refl
truth_or_none (Some b) = refl

-- kinds below 25 test nothing of the capture's, and those from 25 on have no word of their own
no_frame_by : (s : Instruction) (q : Option Relation) → frame_relation_numbered s.kind ≡ q → s.kind < 25
    → frame_test_of s ≡ None
no_frame_by s None is lt = ap (option_map (λ r. field_test_in r s)) is
no_frame_by s (Some r) is lt = let le = frame_kind s.kind r is in absurd (omega arith)

pub capture_below : (s : Instruction) (f : Frame) → s.kind < 25
    → capture_truth s f ≡ length_truth (primitive_numbered s.kind s.operand) f.captured f.original
capture_below s f lt =
    ap (λ (o : Option FieldTest). truth_or (length_truth (primitive_numbered s.kind s.operand) f.captured f.original)
    (option_map (λ t. frame_holds t f) o)) (no_frame_by s (frame_relation_numbered s.kind) refl lt)
    ∙ truth_or_none (length_truth (primitive_numbered s.kind s.operand) f.captured f.original)

pub capture_from : (s : Instruction) (f : Frame) → 25 ≤ s.kind
    → capture_truth s f ≡ option_map (λ t. frame_holds t f) (frame_test_of s)
capture_from s f le =
    ap (λ (p : Option Primitive). truth_or (length_truth p f.captured f.original)
    (option_map (λ t. frame_holds t f) (frame_test_of s))) (no_number s.kind s.operand le)
