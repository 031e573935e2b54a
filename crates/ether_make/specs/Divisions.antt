-- The law on remainders.
use Rattle.std.specs.Prelude.{◌≡◌, ℕ, ◌+◌, ◌-◌, ◌≤◌, List, ◌∷◌, ◌++◌, length, replicate, Bool, true, false}
use Rattle.ether_make.specs.CheckSequences.{added, generator, remainder}

-- A multiple of the generator is a sum of products of the generator and a power: its coefficients begin after i zeros.
pub data IsMultiple : List Bool → Type 0 where
  none : (n : ℕ) → IsMultiple (replicate n false)
  more : (i : ℕ) (p : List Bool) → i + 33 ≤ length p → IsMultiple p
      → IsMultiple (added (replicate i false ++ true ∷ generator) p)

-- a polynomial is the sum of a multiple of the generator and of another one that has 32 coefficients
pub record Divides (p r : List Bool) : Type 0 where
  pub multiple : List Bool
  pub is_multiple : IsMultiple multiple
  pub len : length multiple ≡ length p
  pub sum : p ≡ added multiple (replicate (length p - 32) false ++ r)

-- What is left of a division is a remainder: the polynomial is the sum of it and of a multiple of the generator.
abbrev pub RemaindersAreLeft : Type 0
RemaindersAreLeft =
    (p : List Bool) → 32 ≤ length p → (length (remainder p) ≡ 32) × Divides p (remainder p)
