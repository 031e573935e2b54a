-- Fields with a greatest number.
use Rattle.std.specs.Prelude.{ℕ, ◌≡◌, ◌≤◌, ◌<◌, Result, MatchResult}
use Rattle.ether_base.specs.declared.err.value_too_big_error.ValueTooBigError.{ValueTooBigError}
use Rattle.ether_base.specs.declared.err.value_type.ValueType.{ValueType}

-- the refusal of a number that is above a field's greatest
abbrev pub too_big : (number greatest : ℕ) → ValueType → ValueTooBigError ℕ
too_big number greatest value_type = record { actual = number; max_allowed = greatest; value_type = value_type }

-- a field takes exactly the numbers up to a greatest one; a refusal names the field, the number and the greatest one
abbrev pub TakesUpTo : ℕ → ValueType → ℕ → Result ℕ (ValueTooBigError ℕ) → Type 0
TakesUpTo greatest value_type number result =
    MatchResult result
    (λ field. (number ≤ greatest) × (field ≡ number))
    (λ error. (greatest < number) × (error ≡ too_big number greatest value_type))
