-- What the kit's hexadecimal text is in the formatter's digits.
use Rattle.std.proofs.Common.{◌≡◌, ℕ, zero, suc, ◌+◌, ◌/◌, ◌%◌, ◌<◌, ◌==◌, ◌&&◌, Bool, true, false, List, [], ◌∷◌, ◌++◌, slice_index, slice_index_or, length, refl, ap, ◌∙◌, inl, inr, arith}
use Rattle.std.proofs.lemmas.Bool.{and_parts, cases_lt, eqb-true}
use Rattle.std.specs.Fmt.{digit_glyph}
use Rattle.hex.specs.Hex.{lower_digits, encode_with, encode_lower}
use Rattle.etherparse.specs.Bytes.{IsBytes}
use Rattle.ether_base.specs.Texts.NumberText.{hex_byte}
use Rattle.ether_output.specs.HexText.{hex_text}

-- the test of one digit, which computes
abbrev is_same : ℕ → Bool
is_same d = slice_index lower_digits d == digit_glyph false d

abbrev are_same : ℕ → Bool
are_same zero = true
are_same (suc n) = is_same n && are_same n

same_at : (n k : ℕ) → are_same n ≡ true → k < n → slice_index lower_digits k ≡ digit_glyph false k
same_at zero k h lt = absurd (omega arith)
same_at (suc n) k h lt =
    let parts = and_parts (is_same n) (are_same n) h in
    elim (cases_lt k n) [
      | inl below ↦ same_at n k parts.1 below
      | inr top ↦
          let e : k ≡ n = omega arith in
          rw e (eqb-true _ _ parts.0)
    ]

same_digit : (d : ℕ) → d < 16 → slice_index lower_digits d ≡ digit_glyph false d
same_digit d lt = same_at 16 d refl lt

-- the digits that the kit writes are the text
pub encoded : (bytes : List ℕ) → IsBytes bytes → encode_lower bytes ≡ hex_text bytes
unfolding hex_text encode_with
encoded [] h = refl
encoded (b ∷ bytes) h =
    let small : b < 256 = h 0 in
    let high = same_digit (b / 16) (omega (arith, small)) in
    let low = same_digit (b % 16) (omega arith) in
    let more = encoded bytes (λ i. h (suc i)) in
    λ i. high i ∷ low i ∷ more i

-- the digits of six bytes
pub of_six : (l : List ℕ) → length l ≡ 6
    → hex_byte false (slice_index l 0) ++ (hex_byte false (slice_index l 1) ++ (hex_byte false (slice_index l 2)
    ++ (hex_byte false (slice_index l 3) ++ (hex_byte false (slice_index l 4) ++ hex_byte false (slice_index l 5)))))
    ≡ hex_text l
unfolding hex_text
of_six [] e = absurd (omega arith)
of_six (a ∷ []) e = absurd (omega arith)
of_six (a ∷ b ∷ []) e = absurd (omega arith)
of_six (a ∷ b ∷ c ∷ []) e = absurd (omega arith)
of_six (a ∷ b ∷ c ∷ d ∷ []) e = absurd (omega arith)
of_six (a ∷ b ∷ c ∷ d ∷ f ∷ []) e = absurd (omega arith)
of_six (a ∷ b ∷ c ∷ d ∷ f ∷ g ∷ []) e = refl
of_six (a ∷ b ∷ c ∷ d ∷ f ∷ g ∷ h ∷ l) e = absurd (omega arith)
