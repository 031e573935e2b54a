-- Hexadecimal digits, and descriptions in a table of two parts.
use Rattle.std.proofs.Common.{◌≡◌, ℕ, suc, ◌-◌, ◌/◌, ◌%◌, ◌^◌, ◌<◌, ◌≤◌, Bool, true, false, cond, List, [], ◌∷◌, ◌++◌, Some, None, refl, ap, ◌∙◌, arith, eq-eqb, ne_eqb, ⊎_elim, Bor}
use Rattle.std.specs.Prelude.{Option, if◌then◌else◌, ◌==◌}
use Rattle.std.specs.Option.{option_or, option_copied}
use Rattle.std.proofs.lemmas.Bool.{cases_lt}
use Rattle.std.specs.Fmt.{digits, digits_onto, digit_glyph, char_count, padded_integral, format_spec}
use Rattle.ether_base.specs.Texts.NumberText.{description_in, hex_number}

-- a table of two parts: the first part is asked first
pub description_in-append : (first second : List (ℕ × List ℕ)) (number : ℕ)
    → description_in (first ++ second) number ≡ option_or (description_in first number) (description_in second number)
description_in-append [] second number = refl
description_in-append (row ∷ rows) second number =
    elim (number == row.0) as
    (λ b.
    (if b then Some row.1 else description_in (rows ++ second) number)
    ≡ option_or (if b then Some row.1 else description_in rows number) (description_in second number))
    [ true ↦ refl | false ↦ description_in-append rows second number ]

-- one hexadecimal digit more
last_digit : (turns n : ℕ) (digits_after : List ℕ) → n < 16
    → digits_onto (suc turns) 16 true n digits_after ≡ digit_glyph true n ∷ digits_after
last_digit turns n digits_after small =
    let none : n / 16 ≡ 0 = omega arith in
    let same : n % 16 ≡ n = omega arith in
    ap
    (λ (b : Bool).
    cond b (digit_glyph true (n % 16) ∷ digits_after)
    (digits_onto turns 16 true (n / 16) (digit_glyph true (n % 16) ∷ digits_after)))
    (eq-eqb _ 0 none)
    ∙ ap (λ d. digit_glyph true d ∷ digits_after) same

more_digits : (turns n : ℕ) (digits_after : List ℕ) → 16 ≤ n
    → digits_onto (suc turns) 16 true n digits_after
    ≡ digits_onto turns 16 true (n / 16) (digit_glyph true (n % 16) ∷ digits_after)
more_digits turns n digits_after large =
    ap
    (λ (b : Bool).
    cond b (digit_glyph true (n % 16) ∷ digits_after)
    (digits_onto turns 16 true (n / 16) (digit_glyph true (n % 16) ∷ digits_after)))
    (ne_eqb _ 0 (λ e. omega arith))

one_digit : (n : ℕ) → n < 16 → digits 16 true n ≡ digit_glyph true n ∷ []
unfolding digits
one_digit n small = last_digit 63 n [] small

two_digits : (n : ℕ) → 16 ≤ n → n < 256 → digits 16 true n ≡ digit_glyph true (n / 16) ∷ digit_glyph true (n % 16) ∷ []
unfolding digits
two_digits n large small =
    more_digits 63 n [] large ∙ last_digit 62 (n / 16) (digit_glyph true (n % 16) ∷ []) (omega arith)

three_digits : (n : ℕ) → 256 ≤ n → n < 4096
    → digits 16 true n
    ≡ digit_glyph true (n / 16 / 16) ∷ digit_glyph true (n / 16 % 16) ∷ digit_glyph true (n % 16) ∷ []
unfolding digits
three_digits n large small =
    let last : List ℕ = digit_glyph true (n % 16) ∷ [] in
    more_digits 63 n [] (omega arith)
    ∙ more_digits 62 (n / 16) last (omega arith)
    ∙ last_digit 61 (n / 16 / 16) (digit_glyph true (n / 16 % 16) ∷ last) (omega arith)

all_digits : (n : ℕ) → 4096 ≤ n → n < 65536
    → digits 16 true n
    ≡ digit_glyph true (n / 16 / 16 / 16) ∷ digit_glyph true (n / 16 / 16 % 16) ∷ digit_glyph true (n / 16 % 16)
    ∷ digit_glyph true (n % 16) ∷ []
unfolding digits
all_digits n large small =
    let last : List ℕ = digit_glyph true (n % 16) ∷ [] in
    let last_two : List ℕ = digit_glyph true (n / 16 % 16) ∷ last in
    more_digits 63 n [] (omega arith)
    ∙ more_digits 62 (n / 16) last (omega arith)
    ∙ more_digits 61 (n / 16 / 16) last_two (omega arith)
    ∙ last_digit 60 (n / 16 / 16 / 16) (digit_glyph true (n / 16 / 16 % 16) ∷ last_two) (omega arith)

-- what `{:04X}` writes of a number below 65536
pub four_digits : (n : ℕ) → n < 65536
    → (48 ∷ 120 ∷ []) ++ padded_integral (format_spec 32 0 4 4 (2 ^ 64 - 1)) false [] (digits 16 true n) ≡ hex_number n
unfolding padded_integral char_count hex_number
four_digits n small =
    ⊎_elim
    (λ (one : n < 16).
    let a : n / 4096 ≡ 0 = omega arith in
    let b : n / 256 % 16 ≡ 0 = omega arith in
    let c : n / 16 % 16 ≡ 0 = omega arith in
    let d : n % 16 ≡ n = omega arith in
    rw (one_digit n one, a, b, c, d))
    (λ (more : 16 ≤ n). ⊎_elim
    (λ (two : n < 256).
    let a : n / 4096 ≡ 0 = omega arith in
    let b : n / 256 % 16 ≡ 0 = omega arith in
    let c : n / 16 % 16 ≡ n / 16 = omega arith in
    rw (two_digits n more two, a, b, c))
    (λ (most : 256 ≤ n). ⊎_elim
    (λ (three : n < 4096).
    let a : n / 4096 ≡ 0 = omega arith in
    let b : n / 256 % 16 ≡ n / 16 / 16 = omega arith in
    rw (three_digits n most three, a, b))
    (λ (four : 4096 ≤ n).
    let a : n / 4096 ≡ n / 16 / 16 / 16 = omega arith in
    let b : n / 256 % 16 ≡ n / 16 / 16 % 16 = omega arith in
    rw (all_digits n four small, a, b))
    (cases_lt n 4096))
    (cases_lt n 256))
    (cases_lt n 16)

-- a text that is copied, asked in two parts
pub option_copied-or : {T : Type 0} (first second : Option (Bor T))
    → option_copied (option_or first second) ≡ option_or (option_copied first) (option_copied second)
option_copied-or None second = refl
option_copied-or (Some text) second = refl
