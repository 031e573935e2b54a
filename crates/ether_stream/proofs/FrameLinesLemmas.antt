-- The text of a time whose seconds have ten digits.
use Rattle.std.proofs.Common.{◌≡◌, ℕ, ◌/◌, ◌^◌, ◌<◌, ◌≤◌, List, ◌∷◌, ◌++◌, rules}
use Rattle.std.specs.Prelude.{codes, slice_index_or}
use Rattle.std.specs.Fmt.{decimal}
use Rattle.ether_output.specs.Decimals.{eight_digits}
use Rattle.ether_output.proofs.DecimalLemmas.{of_ten}
use Rattle.ether_format.specs.Spelling.{nine_digits}

-- the last two of the digits before the last eight, and these
abbrev pub ten_digits : ℕ → List ℕ
ten_digits n =
    let high = eight_digits (n / 10 ^ 8) in
    slice_index_or high 6 0 ∷ slice_index_or high 7 0 ∷ eight_digits n

of_ten_digits : (n : ℕ) → 10 ^ 9 ≤ n → n < 10 ^ 10 → ten_digits n ≡ decimal n
unfolding eight_digits
of_ten_digits n most few = search (rules, of_ten)

-- the text between two words, with the digits of the seconds
abbrev pub between_words : List ℕ → ℕ → List ℕ
between_words seconds nanoseconds =
    codes " time " ++ ((seconds ++ (codes "." ++ nine_digits nanoseconds)) ++ codes " link ")

pub recent_time : (seconds nanoseconds : ℕ) → 10 ^ 9 ≤ seconds → seconds < 10 ^ 10
    → between_words (ten_digits seconds) nanoseconds ≡ between_words (decimal seconds) nanoseconds
recent_time seconds nanoseconds most few = search (rules, of_ten_digits)
