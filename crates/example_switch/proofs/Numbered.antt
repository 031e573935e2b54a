-- The ports with a number up to an index, one more each time.
use Rattle.std.proofs.Common.{◌≡◌, ℕ, ◌+◌, ◌-◌, ◌<◌, ◌≤◌, List, length, get_or, slice_get, Some, Bool, true, false, not, ◌&&◌, ◌||◌, nat_eq, nat_le, nat_lt, inl, inr, refl, sym, ap, ◌∙◌, arith}
use Rattle.std.proofs.lemmas.Bool.{lt-ltb, cases_eq, eq-eqb, ne_eqb, le-leb, lt-leb, cases_lt}
use Rattle.std.proofs.lemmas.Option.{slice_get_read, slice_get_cases}
use Rattle.example_switch.specs.declared.port.Port.{Port}
use Rattle.example_switch.specs.Configured.{passes, is_one}

abbrev pub so_far : (Port → Bool) → List Port → (i p : ℕ) → Bool
so_far test ports i p = nat_le p i && is_one test ports p

-- no port has a number up to 0
none_in : (b : Bool) → (b && false) ≡ false
none_in true = refl
none_in false = refl

pub none_yet : (test : Port → Bool) (ports : List Port) (p : ℕ) → false ≡ so_far test ports 0 p
none_yet test ports p = elim (cases_eq p 0) [
  | inl e ↦ sym ((λ k. nat_le p 0 && (not (eq-eqb p 0 e k) && passes test (slice_get ports (p - 1))))
      ∙ none_in (nat_le p 0))
  | inr ne ↦ sym (λ k. lt-leb p 0 (omega (arith, ne)) k && is_one test ports p)
]

settled : (b : Bool) → ((b && true) || false) ≡ b
settled true = refl
settled false = refl

same_as : (b c : Bool) → ((b && false) || c) ≡ c
same_as true c = refl
same_as false c = refl

le_next : (p i : ℕ) → (p ≡ i + 1 → ⊥) → nat_le p i ≡ nat_le p (i + 1)
le_next p i ne = elim (cases_lt i p) [
  | inl lt ↦ lt-leb p i lt ∙ sym (lt-leb p (i + 1) (omega (arith, lt, ne)))
  | inr le ↦ le-leb p i le ∙ sym (le-leb p (i + 1) (omega (arith, le)))
]

pub one_more : (test : Port → Bool) (ports : List Port) (i p : ℕ) (port : Port) (b : Bool)
    → i < length ports → port ≡ get_or ports i port → b ≡ test port
    → ((b && nat_eq p (i + 1)) || so_far test ports i p) ≡ so_far test ports (i + 1) p
one_more test ports i p port b lt is is_in = elim (cases_eq p (i + 1)) [
  | inl e ↦
      let at : slice_get ports (p - 1) ≡ Some port =
      ap (slice_get ports) (omega (arith, e)) ∙ slice_get_read ports (length ports) i port refl lt is in
      let one : is_one test ports p ≡ b =
      (λ k. not (ne_eqb p 0 (λ z. omega (arith, e, z)) k) && passes test (at k)) ∙ sym is_in in
      let left : ((b && nat_eq p (i + 1)) || so_far test ports i p) ≡ b =
      (λ k. (b && eq-eqb p (i + 1) e k) || (lt-leb p i (omega (arith, e)) k && is_one test ports p)) ∙ settled b in
      left ∙ sym one ∙ sym (λ k. le-leb p (i + 1) (omega (arith, e)) k && is_one test ports p)
  | inr ne ↦
      (λ k. (b && ne_eqb p (i + 1) ne k) || so_far test ports i p)
      ∙ same_as b (so_far test ports i p)
      ∙ (λ k. le_next p i ne k && is_one test ports p)
]

-- all numbers are up to the number of ports
pub all_so_far : (test : Port → Bool) (ports : List Port) (i p : ℕ) → length ports ≤ i
    → so_far test ports i p ≡ is_one test ports p
all_so_far test ports i p all = elim (cases_lt i p) [
  | inl lt ↦
      let gone : passes test (slice_get ports (p - 1)) ≡ false = elim (slice_get_cases ports (p - 1)).1 [
        | inl (port, within, is, at) ↦ absurd (omega (arith, within, lt, all))
        | inr (beyond, is) ↦ ap (passes test) is
      ] in
      let one : is_one test ports p ≡ false = (λ k. not (nat_eq p 0) && gone k) ∙ none_in (not (nat_eq p 0)) in
      (λ k. lt-leb p i lt k && is_one test ports p) ∙ sym one
  | inr le ↦ λ k. le-leb p i le k && is_one test ports p
]

-- the numbers from 1 to i
abbrev pub up_to : (i p : ℕ) → Bool
up_to i p = nat_lt 0 p && nat_le p i

pub none_up_to : (p : ℕ) → false ≡ up_to 0 p
none_up_to p = elim (cases_eq p 0) [
  | inl e ↦ λ k. nat_lt 0 (sym e k) && nat_le (sym e k) 0
  | inr ne ↦ sym ((λ k. nat_lt 0 p && lt-leb p 0 (omega (arith, ne)) k) ∙ none_in (nat_lt 0 p))
]

pub one_more_up_to : (i p : ℕ) → (nat_eq p (i + 1) || up_to i p) ≡ up_to (i + 1) p
one_more_up_to i p = elim (cases_eq p (i + 1)) [
  | inl e ↦
      (λ k. eq-eqb p (i + 1) e k || up_to i p)
      ∙ sym (λ k. lt-ltb 0 p (omega (arith, e)) k && le-leb p (i + 1) (omega (arith, e)) k)
  | inr ne ↦ (λ k. ne_eqb p (i + 1) ne k || up_to i p) ∙ (λ k. nat_lt 0 p && le_next p i ne k)
]
