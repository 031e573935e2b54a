-- The text of a number, two, four and eight digits at a time.
use Rattle.std.proofs.Common.{◌≡◌, ℕ, zero, suc, ◌+◌, ◌/◌, ◌%◌, ◌^◌, ◌<◌, ◌≤◌, ◌==◌, ◌&&◌, Bool, true, false, List, [], ◌∷◌, ◌++◌, slice_index_or, refl, sym, ap, ◌∙◌, inl, inr, append_assoc, arith}
use Rattle.std.proofs.lemmas.Bool.{and_parts, cases_lt, eqb-true}
use Rattle.std.specs.Fmt.{decimal}
use Rattle.std.proofs.lemmas.Fmt.{decimal_digit, decimal_step}
use Rattle.ether_output.specs.Decimals.{two_digits, eight_digits}
use Rattle.ether_output.specs.declared.decimals.TheConstants.{PAIRS}

-- ---- the table

-- the test of one entry, which computes
abbrev is_pair : List ℕ → ℕ → Bool
is_pair (a ∷ b ∷ []) n = (a == (48 + n / 10)) && (b == (48 + n % 10))
is_pair _ n = false

is_pair-same : (l : List ℕ) (n : ℕ) → is_pair l n ≡ true → l ≡ two_digits n
is_pair-same [] n h = cc
is_pair-same (a ∷ []) n h = cc
is_pair-same (a ∷ b ∷ []) n h =
    let parts = and_parts (a == (48 + n / 10)) (b == (48 + n % 10)) h in
    let tens = eqb-true a _ parts.0 in
    let ones = eqb-true b _ parts.1 in
    λ i. tens i ∷ ones i ∷ []
is_pair-same (a ∷ b ∷ c ∷ l) n h = cc

abbrev are_pairs : ℕ → Bool
are_pairs zero = true
are_pairs (suc n) = is_pair (slice_index_or PAIRS n []) n && are_pairs n

pair_below : (n k : ℕ) → are_pairs n ≡ true → k < n → slice_index_or PAIRS k [] ≡ two_digits k
pair_below zero k h lt = absurd (omega arith)
pair_below (suc n) k h lt =
    let parts = and_parts (is_pair (slice_index_or PAIRS n []) n) (are_pairs n) h in
    elim (cases_lt k n) [
      | inl below ↦ pair_below n k parts.1 below
      | inr top ↦
          let e : k ≡ n = omega arith in
          rw e (is_pair-same (slice_index_or PAIRS n []) n parts.0)
    ]

pub pair_at : (k : ℕ) → k < 100 → slice_index_or PAIRS k [] ≡ two_digits k
pair_at k lt = pair_below 100 k refl lt

-- ---- the text

pub one_digit : (n a : ℕ) → n < 10 → a ≡ 48 + n → a ∷ [] ≡ decimal n
one_digit n a few e = ap (λ (x : ℕ). x ∷ []) e ∙ sym (decimal_digit n few)

pub of_two : (n : ℕ) → 10 ≤ n → n < 100 → two_digits n ≡ decimal n
of_two n most few = rw (decimal_step n most (omega arith), decimal_digit (n / 10) (omega arith))

-- the digits before the last two, and these
pub hundreds : (n : ℕ) → 100 ≤ n → n < 2 ^ 64 → decimal (n / 100) ++ two_digits (n % 100) ≡ decimal n
hundreds n long fits =
    let a : n / 10 / 10 ≡ n / 100 = omega arith in
    let b : n / 10 % 10 ≡ n % 100 / 10 = omega arith in
    let c : n % 10 ≡ n % 100 % 10 = omega arith in
    rw (decimal_step n (omega arith) fits, decimal_step (n / 10) (omega arith) (omega arith), append_assoc, a, b, ← c)

pub of_three : (n a : ℕ) → 100 ≤ n → n < 1000 → a ≡ 48 + n / 100 → a ∷ two_digits (n % 100) ≡ decimal n
of_three n a most few e =
    ap (λ (l : List ℕ). l ++ two_digits (n % 100)) (one_digit (n / 100) a (omega arith) e)
    ∙ hundreds n most (omega arith)

pub of_four : (n : ℕ) → 1000 ≤ n → n < 10000 → two_digits (n / 100) ++ two_digits (n % 100) ≡ decimal n
of_four n most few =
    ap (λ (l : List ℕ). l ++ two_digits (n % 100)) (of_two (n / 100) (omega arith) (omega arith))
    ∙ hundreds n (omega arith) (omega arith)

-- the digits before the last four, and these
pub myriads : (n : ℕ) → 10000 ≤ n → n < 2 ^ 64
    → decimal (n / 10000) ++ (two_digits (n % 10000 / 100) ++ two_digits (n % 10000 % 100)) ≡ decimal n
myriads n long fits =
    let a : n / 100 / 100 ≡ n / 10000 = omega arith in
    let b : n / 100 % 100 ≡ n % 10000 / 100 = omega arith in
    let c : n % 100 ≡ n % 10000 % 100 = omega arith in
    let front : decimal (n / 100) ≡ decimal (n / 10000) ++ two_digits (n % 10000 / 100) =
    sym (hundreds (n / 100) (omega arith) (omega arith)) ∙ (λ i. decimal (a i) ++ two_digits (b i)) in
    sym (append_assoc (decimal (n / 10000)) (two_digits (n % 10000 / 100)) (two_digits (n % 10000 % 100)))
    ∙ (λ i. sym front i ++ two_digits (sym c i)) ∙ hundreds n (omega arith) fits

-- four digits twice
pub of_eight : (n : ℕ) → let high = n / 10000 % 10000 in let low = n % 10000 in
    (48 + high / 100 / 10) ∷ (48 + high / 100 % 10) ∷ (48 + high % 100 / 10) ∷ (48 + high % 100 % 10)
    ∷ (48 + low / 100 / 10) ∷ (48 + low / 100 % 10) ∷ (48 + low % 100 / 10) ∷ (48 + low % 100 % 10) ∷ []
    ≡ eight_digits n
unfolding eight_digits
of_eight n =
    let a : n / 10000 % 10000 / 100 / 10 ≡ n / 10 ^ 7 % 10 = omega arith in
    let b : n / 10000 % 10000 / 100 % 10 ≡ n / 10 ^ 6 % 10 = omega arith in
    let c : n / 10000 % 10000 % 100 / 10 ≡ n / 10 ^ 5 % 10 = omega arith in
    let d : n / 10000 % 10000 % 100 % 10 ≡ n / 10 ^ 4 % 10 = omega arith in
    let e : n % 10000 / 100 / 10 ≡ n / 10 ^ 3 % 10 = omega arith in
    let f : n % 10000 / 100 % 10 ≡ n / 10 ^ 2 % 10 = omega arith in
    let g : n % 10000 % 100 / 10 ≡ n / 10 % 10 = omega arith in
    let h : n % 10000 % 100 % 10 ≡ n % 10 = omega arith in
    λ i. (48 + a i) ∷ (48 + b i) ∷ (48 + c i) ∷ (48 + d i) ∷ (48 + e i) ∷ (48 + f i) ∷ (48 + g i) ∷ (48 + h i) ∷ []

-- the digits before the last eight, and these
pub before_eight : (n : ℕ) → 10 ^ 8 ≤ n → n < 2 ^ 64 → decimal (n / 10 ^ 8) ++ eight_digits n ≡ decimal n
before_eight n long fits =
    let high = n / 10000 in
    let first = decimal (n / 10 ^ 8) in
    let middle = two_digits (high % 10000 / 100) ++ two_digits (high % 10000 % 100) in
    let last = two_digits (n % 10000 / 100) ++ two_digits (n % 10000 % 100) in
    let a : high / 10000 ≡ n / 10 ^ 8 = omega arith in
    let front : first ++ middle ≡ decimal high =
    (λ i. decimal (sym a i) ++ middle) ∙ myriads high (omega arith) (omega arith) in
    ap (λ (l : List ℕ). first ++ l) (sym (of_eight n)) ∙ sym (append_assoc first middle last)
    ∙ ap (λ (l : List ℕ). l ++ last) front ∙ myriads n (omega arith) fits

pub of_ten : (n : ℕ) → 10 ^ 9 ≤ n → n < 10 ^ 10 → two_digits (n / 10 ^ 8) ++ eight_digits n ≡ decimal n
of_ten n most few =
    ap (λ (l : List ℕ). l ++ eight_digits n) (of_two (n / 10 ^ 8) (omega arith) (omega arith))
    ∙ before_eight n (omega arith) (omega arith)
