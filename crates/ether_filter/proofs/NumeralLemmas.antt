-- Digits, one after the other.
use Rattle.std.proofs.Common.{◌≡◌, ℕ, ◌+◌, ◌*◌, ◌^◌, ◌<◌, ◌≤◌, List, [], ◌∷◌, length, take, inl, inr, refl, sym, ap, ◌∙◌, Bool, true, false, min, nat_lt, arith}
use Rattle.std.specs.Prelude.{slice_index, None, Some, Option, ◌&&◌, MatchOption, IfSome, option_map, ◌⊎◌, if◌then◌else◌}
use Rattle.std.proofs.Math.Bool.{and-false}
use Rattle.std.specs.List.{list_all}
use Rattle.std.specs.Char.{digit_value}
use Rattle.std.specs.Str.Parse.{digits_value, AllDigits}
use Rattle.std.proofs.Math.Nat.{mul-le-mul_left, pow-le-pow_right}
use Rattle.std.proofs.lemmas.Bool.{cases_lt, lt-ltb, le-ltb, ltb-true, eq-eqb}
use Rattle.std.proofs.lemmas.Int.Digits.{digits_value_more}
use Rattle.std.proofs.lemmas.List.Folds.{list_all_more, list_all_at}
use Rattle.std.proofs.lemmas.List.{take_all}
use Rattle.std.proofs.lemmas.Int.Digits.{digits_value-lt}
use Rattle.ether_filter.specs.Numerals.{digits_in, pairs_in, address_in, IsCapped, IsCappedNumber, narrowed, whole_number_in, within_32_bits, within_64_bits}

abbrev pub is_digit : ℕ → ℕ → Bool
is_digit radix c = nat_lt (digit_value c) radix

-- the first digits are digits, and their number was read
pub record Reads (radix : ℕ) (ds : List ℕ) (i number : ℕ) : Type 0 where
  pub digits : list_all (is_digit radix) (take i ds) ≡ true
  pub value : number ≡ min (digits_value radix (take i ds)) (2 ^ 64)

capped_more : (n radix digit : ℕ) → 1 ≤ radix → min (min n (2 ^ 64) * radix + digit) (2 ^ 64)
    ≡ min (n * radix + digit) (2 ^ 64)
capped_more n radix digit le = elim (cases_lt n (2 ^ 64)) [
  | inl small ↦ (let same : min n (2 ^ 64) ≡ n = omega arith in rw same refl)
  | inr great ↦ (let same : min n (2 ^ 64) ≡ 2 ^ 64 = omega arith in
      let cap : 2 ^ 64 * 1 ≤ 2 ^ 64 * radix = mul-le-mul_left (2 ^ 64) le in
      let all : n * 1 ≤ n * radix = mul-le-mul_left n le in
      rw same (omega arith))
]

pub reads_more : (radix : ℕ) (ds : List ℕ) (i value digit next : ℕ) → 2 ≤ radix → i < length ds → Reads radix ds i value
    → digit_value (slice_index ds i) < radix → digit ≡ digit_value (slice_index ds i) → next
    ≡ min (value * radix + digit) (2 ^ 64) → Reads radix ds (i + 1) next
reads_more radix ds i value digit next two lt r below is more = record {
  digits = list_all_more (is_digit radix) ds i 0 lt ∙ rw (r.digits, lt-ltb _ _ below) refl;
  value = more
      ∙ rw (is, r.value, digits_value_more radix ds i lt)
      (capped_more (digits_value radix (take i ds)) radix (digit_value (slice_index ds i)) (omega arith));
}

pub reads_all : (radix : ℕ) (ds : List ℕ) (i number : ℕ) → 0 < length ds → length ds ≤ i → Reads radix ds i number
    → IsCapped radix ds number
reads_all radix ds i number some le r =
    let all : take i ds ≡ ds = take_all i ds le in
    let digits : list_all (is_digit radix) ds ≡ true = rw all at r.digits in
    let value : number ≡ min (digits_value radix ds) (2 ^ 64) = rw all at r.value in
    record { number = digits_value radix ds; is = rw (lt-ltb 0 (length ds) some, digits) refl; capped = value }

-- something that is no digit
pub reads_none : (radix : ℕ) (ds : List ℕ) (i : ℕ) → i < length ds → radix ≤ digit_value (slice_index ds i)
    → digits_in radix ds ≡ None
reads_none radix ds i lt other =
    let no : list_all (is_digit radix) ds
    ≡ false = list_all_at (is_digit radix) ds i 0 lt (le-ltb (digit_value (slice_index ds i)) radix other) in
    rw (no, and-false (nat_lt 0 (length ds))) refl

decided : (b : Bool) → (b ≡ true) ⊎ (b ≡ false)
decided true = inl refl
decided false = inr refl

both : (a b : Bool) → (a && b) ≡ true → (a ≡ true) × (b ≡ true)
both true b is = (refl, is)
both false b is = absurd cc

all_digits : (radix : ℕ) (ds : List ℕ) → list_all (is_digit radix) ds ≡ true → AllDigits radix ds
all_digits radix [] all = tt
all_digits radix (c ∷ cs) all = let p = both (is_digit radix c) (list_all (is_digit radix) cs) all
    in (ltb-true _ _ p.0, all_digits radix cs p.1)

nonempty : (radix : ℕ) (ds : List ℕ) (n : ℕ) → digits_in radix ds ≡ Some n → 0 < length ds
nonempty radix [] n is = absurd cc
nonempty radix (d ∷ ds) n is = omega arith

-- digits that write a number below this one
pub digits_below : (radix : ℕ) (ds : List ℕ) (n most : ℕ) → radix ^ length ds ≤ most → digits_in radix ds ≡ Some n
    → n < most
digits_below radix ds n most le is = elim (decided (list_all (is_digit radix) ds)) [
  | inl all ↦ (let lt = digits_value-lt radix ds (all_digits radix ds all) in
      let found : digits_in radix ds ≡ Some (digits_value radix ds) =
      rw (lt-ltb 0 (length ds) (nonempty radix ds n is), all) refl in
      let both : Some n ≡ Some (digits_value radix ds) = sym is ∙ found in
      let same : n ≡ digits_value radix ds = cc in
      omega (arith, lt, le, same))
  | inr not_all ↦ (let none : digits_in radix ds ≡ None = rw (not_all, and-false (nat_lt 0 (length ds))) refl in
      let both : Some n ≡ None = sym is ∙ none in absurd cc)
]

-- digits of a number that fits in 64 bits
number_read : (radix : ℕ) (ds : List ℕ) (result : Option ℕ) → radix ^ length ds ≤ 2 ^ 64
    → MatchOption result (digits_in radix ds ≡ None) (IsCapped radix ds) → narrowed result ≡ digits_in radix ds
number_read radix ds None most none = sym none
number_read radix ds (Some v) most capped =
    let bound = digits_below radix ds capped.number (2 ^ 64) most capped.is in
    let value : v ≡ capped.number = omega (arith, capped.capped, bound) in
    rw (value, lt-ltb capped.number (2 ^ 64) bound) (sym capped.is)

-- sixteen hexadecimal digits have 64 bits at most
pub address_read : (ds : List ℕ) (result : Option ℕ) → length ds ≤ 16
    → MatchOption result (digits_in 16 ds ≡ None) (IsCapped 16 ds) → narrowed result ≡ digits_in 16 ds
address_read ds result len capped = number_read 16 ds result (pow-le-pow_right (omega arith) len) capped

-- .. and so have nine decimal digits
pub decimal_read : (ds : List ℕ) (result : Option ℕ) → length ds ≤ 9
    → MatchOption result (digits_in 10 ds ≡ None) (IsCapped 10 ds) → narrowed result ≡ digits_in 10 ds
decimal_read ds result len capped =
    let most : 10 ^ length ds ≤ 10 ^ 9 = pow-le-pow_right (omega arith) len in
    number_read 10 ds result (omega (arith, most)) capped

pub decimal_below : (ds : List ℕ) (o : Option ℕ) → length ds ≤ 9 → o ≡ digits_in 10 ds
    → IfSome o (λ n. n < 1000000000)
decimal_below ds None len is = tt
decimal_below ds (Some n) len is =
    let most : 10 ^ length ds ≤ 10 ^ 9 = pow-le-pow_right (omega arith) len in
    digits_below 10 ds n 1000000000 (omega (arith, most)) (sym is)

pub address_of_twelve : (word : List ℕ) → length word ≡ 12 → address_in word ≡ digits_in 16 word
address_of_twelve word len =
    ap (λ (b : Bool). if b then digits_in 16 word else pairs_in word) (eq-eqb (length word) 12 len)

-- a number below the cap was read as it is
pub capped_within : (word : List ℕ) (v : ℕ) → IsCappedNumber word v
    → option_map within_32_bits (whole_number_in word) ≡ Some (within_32_bits v)
capped_within word v capped = elim (cases_lt capped.number (2 ^ 32)) [
  | inl small ↦ (let same : v ≡ capped.number = omega (arith, capped.capped) in rw (capped.is, same) refl)
  | inr great ↦
      (let above : 2 ^ 32 ≤ v = omega (arith, capped.capped)
      in rw (capped.is, le-ltb capped.number (2 ^ 32) great, le-ltb v (2 ^ 32) above) refl)
]

pub capped_wide : (word : List ℕ) (v : ℕ) → IsCappedNumber word v
    → option_map within_64_bits (whole_number_in word) ≡ Some (within_64_bits v)
capped_wide word v capped = elim (cases_lt capped.number (2 ^ 64)) [
  | inl small ↦ (let same : v ≡ capped.number = omega (arith, capped.capped) in rw (capped.is, same) refl)
  | inr great ↦
      (let above : 2 ^ 64 ≤ v = omega (arith, capped.capped)
      in rw (capped.is, le-ltb capped.number (2 ^ 64) great, le-ltb v (2 ^ 64) above) refl)
]
