-- Bytes of texts that are written otherwise.
use Rattle.std.proofs.Common.{◌≡◌, ℕ, zero, suc, ◌+◌, ◌<◌, ◌≤◌, List, [], ◌∷◌, length, drop, Bool, true, false, refl, sym, ap, ◌∙◌, arith}
use Rattle.std.specs.Prelude.{◌||◌, Result, Ok, Err, MatchResult, is_ok, slice_index_or}
use Rattle.std.specs.Str.{IsUtf8, is_utf8}
use Rattle.std.proofs.lemmas.Str.{IsUtf8-from_is_utf8, is_utf8-from_IsUtf8}
use Rattle.ether_format.specs.Csv.{has_special, is_special}

-- ---- UTF-8

not_utf8 : (bytes : List ℕ) → ¬ (IsUtf8 bytes) → is_utf8 bytes ≡ false
not_utf8 bytes other = by (is_utf8 bytes) refl
  where
    by : (b : Bool) → is_utf8 bytes ≡ b → b ≡ false
    by true is = absurd (other (IsUtf8-from_is_utf8 bytes is))
    by false is = refl

-- a result that tells whether bytes are UTF-8
pub utf8_of : {X Y : Type 0} (bytes : List ℕ) (A : X → Type 0) (B : Y → Type 0) (r : Result X Y)
    → MatchResult r (λ x. A x × IsUtf8 bytes) (λ y. ¬ (IsUtf8 bytes) × B y) → is_ok r ≡ is_utf8 bytes
utf8_of bytes A B (Ok x) told = sym (is_utf8-from_IsUtf8 bytes told.1)
utf8_of bytes A B (Err y) told = sym (not_utf8 bytes told.0)

-- ---- bytes for which CSV encloses a field

pub special_here : (text : List ℕ) (n : ℕ) → n < length text → is_special (slice_index_or text n 0) ≡ true
    → has_special (drop n text) ≡ true
special_here [] n lt is = absurd (omega (arith, lt))
special_here (b ∷ bs) zero lt is = ap (λ (p : Bool). p || has_special bs) is
special_here (b ∷ bs) (suc n) lt is = special_here bs n (omega (arith, lt)) is

later_same : (text : List ℕ) (n : ℕ) → n < length text → is_special (slice_index_or text n 0) ≡ false
    → has_special (drop n text) ≡ has_special (drop (suc n) text)
later_same [] n lt is = absurd (omega (arith, lt))
later_same (b ∷ bs) zero lt is = ap (λ (p : Bool). p || has_special bs) is
later_same (b ∷ bs) (suc n) lt is = later_same bs n (omega (arith, lt)) is

pub special_later : (text : List ℕ) (n : ℕ) → n < length text → is_special (slice_index_or text n 0) ≡ false
    → has_special (drop (n + 1) text) ≡ has_special (drop n text)
special_later text n lt is =
    let next : n + 1 ≡ suc n = omega arith in
    ap (λ (k : ℕ). has_special (drop k text)) next ∙ sym (later_same text n lt is)

pub special_none : (text : List ℕ) (n : ℕ) → length text ≤ n → has_special (drop n text) ≡ false
special_none [] zero le = refl
special_none [] (suc n) le = refl
special_none (b ∷ bs) zero le = absurd (omega (arith, le))
special_none (b ∷ bs) (suc n) le = special_none bs n (omega (arith, le))
