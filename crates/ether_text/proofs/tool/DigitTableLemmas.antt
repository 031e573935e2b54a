-- Digits by a table: an entry is what the crate `hex` decodes after a zero.
use Rattle.std.proofs.Common.{inl, inr, ◌≡◌, ℕ, ◌+◌, ◌*◌, ◌%◌, ◌<◌, List, [], ◌∷◌, slice_index, Option, Some, None, is_some, true, Result, Ok, Err, refl, ap, sym, ◌∙◌, arith, take, drop, get_or-take, get_or-drop}
use Rattle.std.specs.Prelude.{MatchResult, unwrap_or}
use Rattle.hex.specs.Hex.{hex_digit_value, decode_sized, decode_pairs, digit_or_error, ◌>>=◌}
use Rattle.hex.specs.declared.error.FromHexError.{FromHexError}
use Rattle.hex.specs.declared.error.FromHexError.TheVariants.{InvalidHexCharacter}
use Rattle.ether_text.specs.Tool.DigitTable.{entry_of}
use Rattle.ether_text.specs.Tool.Frame.{NameByte}
use Rattle.std.specs.Int.Bits.{bit_or}
use Rattle.std.proofs.lemmas.Nat.{or_lt, le_or_l, le_or_r}
use Rattle.std.proofs.lemmas.Bool.{cases_eq, cases_lt}

-- a character after a zero, by its value
abbrev after_zero : ℕ → Option ℕ → Result (List ℕ) FromHexError
after_zero c (Some v) = Ok (v ∷ [])
after_zero c None = Err (InvalidHexCharacter c 1)

one_pair : (c : ℕ) (o : Option ℕ)
    → ((digit_or_error c 1 o >>= λ low. Ok (0 * 16 + low)) >>= λ byte. (Ok [] >>= λ bytes. Ok (byte ∷ bytes)))
    ≡ after_zero c o
one_pair c (Some v) = let value : 0 * 16 + v ≡ v = omega arith in ap (λ (byte : ℕ). Ok (byte ∷ [])) value
one_pair c None = refl

decoded : (c : ℕ) → decode_sized (48 ∷ c ∷ []) 1 ≡ after_zero c (hex_digit_value c)
unfolding decode_pairs
decoded c = one_pair c (hex_digit_value c)

with_value : (c : ℕ) (o : Option ℕ) (r : Result (Unit {0}) FromHexError) (new : List ℕ) (u : Unit {0}) → r ≡ Ok u
    → MatchResult (after_zero c o) (λ bytes. (r ≡ Ok tt) × (new ≡ bytes)) (λ e. r ≡ Err e)
    → slice_index new 0 ≡ unwrap_or o 128
with_value c (Some v) r new u is h = ap (λ (bytes : List ℕ). slice_index bytes 0) h.1
with_value c None r new u is h = absurd (cc)

without_value : (c : ℕ) (o : Option ℕ) (r : Result (Unit {0}) FromHexError) (new : List ℕ) (f : FromHexError)
    → r ≡ Err f
    → MatchResult (after_zero c o) (λ bytes. (r ≡ Ok tt) × (new ≡ bytes)) (λ e. r ≡ Err e) → 128 ≡ unwrap_or o 128
without_value c (Some v) r new f is h = let no : r ≡ Ok tt = h.0 in absurd (cc)
without_value c None r new f is h = refl

-- a digit that was decoded is its entry
pub entry_decoded : (c : ℕ) (r : Result (Unit {0}) FromHexError) (new : List ℕ) (u : Unit {0}) → r ≡ Ok u
    → MatchResult (decode_sized (48 ∷ c ∷ []) 1) (λ bytes. (r ≡ Ok tt) × (new ≡ bytes)) (λ e. r ≡ Err e)
    → slice_index new 0 ≡ entry_of c
entry_decoded c r new u is h = with_value c (hex_digit_value c) r new u is (rw (sym (decoded c)) h)

-- a character that was refused has the mark
pub entry_refused : (c : ℕ) (r : Result (Unit {0}) FromHexError) (new : List ℕ) (f : FromHexError) → r ≡ Err f
    → MatchResult (decode_sized (48 ∷ c ∷ []) 1) (λ bytes. (r ≡ Ok tt) × (new ≡ bytes)) (λ e. r ≡ Err e)
    → 128 ≡ entry_of c
entry_refused c r new f is h = without_value c (hex_digit_value c) r new f is (rw (sym (decoded c)) h)

-- ---- digits and marks

digit_of : (o : Option ℕ) → unwrap_or o 128 < 128 → is_some o ≡ true
digit_of (Some v) h = refl
digit_of None h = absurd (omega arith)

-- an entry without the mark is that of a digit
pub is_digit : (c e : ℕ) → e ≡ entry_of c → e < 128 → is_some (hex_digit_value c) ≡ true
is_digit c e is h = digit_of (hex_digit_value c) (omega (arith, is))

-- the entry of a digit has no mark
pub no_mark : (c e : ℕ) → e ≡ entry_of c → is_some (hex_digit_value c) ≡ true → e < 128
no_mark c e is h = grind arith

value_of : (o : Option ℕ) → unwrap_or o 128 < 128 → o ≡ Some (unwrap_or o 128)
value_of (Some v) h = refl
value_of None h = absurd (omega arith)

small : (c v : ℕ) → hex_digit_value c ≡ Some v → v < 16
small c v h = grind arith

-- two entries without the mark name their byte
pub byte_named : (first second high low byte : ℕ) → high ≡ entry_of first → low ≡ entry_of second → high < 128
    → low < 128
    → byte ≡ (high * 16 % 256 + low) % 256 → NameByte first second byte
byte_named first second high low byte high_is low_is high_lt low_lt is =
    let first_value : hex_digit_value first ≡ Some high =
    rw high_is (value_of (hex_digit_value first) (omega (arith, high_is))) in
    let second_value : hex_digit_value second ≡ Some low =
    rw low_is (value_of (hex_digit_value second) (omega (arith, low_is))) in
    let high_small = small first high first_value in
    let low_small = small second low second_value in
    record {
      high = high;
      low = low;
      first_value = first_value;
      second_value = second_value;
      whole = omega (arith, is);
    }

-- marks are below 128 exactly if none of them is above
pub no_marks : (marks high low : ℕ) → marks < 128 → high < 128 → low < 128 → bit_or marks (bit_or high low) < 128
no_marks marks high low m h l = or_lt 7 marks (bit_or high low) m (or_lt 7 high low h l)

pub mark_of : (marks high low : ℕ) → bit_or marks (bit_or high low) < 128 → (marks < 128) × (high < 128) × (low < 128)
mark_of marks high low h =
    let both = le_or_r marks (bit_or high low) in
    let one = le_or_l high low in
    let other = le_or_r high low in
    let before = le_or_l marks (bit_or high low) in
    (omega arith, omega arith, omega arith)

-- what holds below twice a number, and of the next two, holds below twice the next number
pub two_more : (P : ℕ → Type 0) (i : ℕ) → ((k : ℕ) → k < 2 * i → P k) → P (2 * i) → P (2 * i + 1) → (k : ℕ)
    → k < 2 * (i + 1) → P k
two_more P i before first second k lt =
    elim (cases_lt k (2 * i)) [
      | inl below ↦ before k below
      | inr not_below ↦
          elim (cases_eq k (2 * i)) [
            | inl at ↦ rw at first
            | inr after ↦ let at : k ≡ 2 * i + 1 = omega arith in rw at second
          ]
    ]

-- a byte of the next pair
pub pair_at : (n k at : ℕ) (line rest : List ℕ) → rest ≡ drop n line → k < 2 → n + k ≡ at
    → slice_index (take 2 rest) k ≡ slice_index line at
pair_at n k at line rest is lt place =
    get_or-take 2 rest k 0 lt ∙ ap (λ (l : List ℕ). slice_index l k) is ∙ get_or-drop n line k 0
    ∙ ap (λ (i : ℕ). slice_index line i) place
