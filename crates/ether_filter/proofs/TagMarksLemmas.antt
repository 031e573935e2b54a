-- Sets of what VLAN tags have, after a further identifier, and without any.
use Rattle.std.proofs.Common.{◌≡◌, ℕ, ◌*◌, ◌/◌, ◌%◌, ◌^◌, ◌<◌, List, [], length, set, refl, sym, ap, ◌∙◌, arith, false, ◌||◌, nat_eq, inl, inr}
use Rattle.std.specs.Prelude.{get_or, replicate}
use Rattle.std.specs.Int.{bit_at, w64}
use Rattle.std.specs.Int.RustNames.{bit_or}
use Rattle.std.proofs.Math.Bool.{or-false}
use Rattle.std.proofs.lemmas.Bool.{cases_eq, cases_lt, ne_eqb, eq-eqb, or_right}
use Rattle.std.proofs.lemmas.Grind.{get_or-set_at}
use Rattle.std.proofs.lemmas.List.{get_or-set_other, get_or-replicate, get_or_past, length-replicate}
use Rattle.std.proofs.lemmas.Nat.Bits.{bit_at-zero, bit_at_set_same, bit_at_set_other}
use Rattle.ether_filter.specs.TagMarks.{has_bit, has_tag_type}

-- ---- identifiers

same_id : (n id : ℕ) → id / 64 ≡ n / 64 → id % 64 ≡ n % 64 → n ≡ id
same_id n id word bit = omega (arith, word, bit)

pub bit_set : (words : List ℕ) (id at : ℕ) → at ≡ id / 64 → at < length words
    → (n : ℕ) → has_bit (set words at (bit_or (get_or words at 0) (1 * 2 ^ (id % 64) % 2 ^ 64))) n
    ≡ (has_bit words n || nat_eq n id)
bit_set words id at is inside n = elim (cases_eq at (n / 64)) [
  | inl same ↦ elim (cases_eq (n % 64) (id % 64)) [
    | inl bit ↦
        let equal : n ≡ id = same_id n id (sym is ∙ same) (sym bit) in
        let now : bit_at (bit_or (get_or words at 0) (1 * 2 ^ (id % 64) % 2 ^ 64)) (n % 64) ≡ 1 =
        rw bit (bit_at_set_same w64 (get_or words at 0) (id % 64) (omega arith)) in
        rw (get_or-set_at words at (n / 64) _ 0 (sym same) inside, now)
        (sym (or_right (has_bit words n) (nat_eq n id) (eq-eqb n id equal)))
    | inr other ↦
        let now = bit_at_set_other w64 (get_or words at 0) (id % 64) (omega arith) (n % 64) other in
        let never = ne_eqb n id (λ equal. other (ap (λ k. k % 64) equal)) in
        rw (get_or-set_at words at (n / 64) _ 0 (sym same) inside, now, never, same)
        (sym (or-false (has_bit words n)))
  ]
  | inr other ↦
      let never = ne_eqb n id (λ equal. other (is ∙ ap (λ k. k / 64) (sym equal))) in
      rw (get_or-set_other words at (n / 64) _ 0 (λ e. other (sym e)), never) (sym (or-false (has_bit words n)))
]

-- ---- none

pub no_type : (n : ℕ) → has_tag_type (record { customer = false; service = false; double = false }) n ≡ false
no_type n = search arith

zero : ℕ
zero = 0

zeros : (i : ℕ) → get_or (replicate 64 zero) i zero ≡ zero
zeros i = elim (cases_lt i 64) [
  | inl lt ↦ get_or-replicate 64 i zero zero lt
  | inr past ↦ get_or_past (replicate 64 zero) i zero (omega (arith, length-replicate 64 zero, past))
]

pub no_bits : (n : ℕ) → has_bit (replicate 64 0) n ≡ false
unfolding zero
no_bits n = rw (zeros (n / 64), bit_at-zero (n % 64)) refl

pub no_words : (n : ℕ) → has_bit [] n ≡ false
no_words n = rw (bit_at-zero (n % 64)) refl
