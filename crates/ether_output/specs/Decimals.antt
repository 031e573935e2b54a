-- Numbers in a fixed count of decimal digits.
use Rattle.std.specs.Prelude.{ℕ, ◌+◌, ◌/◌, ◌%◌, ◌^◌, List, [], ◌∷◌}

-- the two digits of a number below a hundred, with a leading zero
abbrev pub two_digits : ℕ → List ℕ
two_digits n = (48 + n / 10) ∷ (48 + n % 10) ∷ []

-- the lowest eight digits of a number, with leading zeros
unfoldable pub eight_digits : ℕ → List ℕ
eight_digits n =
    (48 + n / 10 ^ 7 % 10) ∷ (48 + n / 10 ^ 6 % 10) ∷ (48 + n / 10 ^ 5 % 10) ∷ (48 + n / 10 ^ 4 % 10)
    ∷ (48 + n / 10 ^ 3 % 10) ∷ (48 + n / 10 ^ 2 % 10) ∷ (48 + n / 10 % 10) ∷ (48 + n % 10) ∷ []
