-- Texts that are split at a byte.
use Rattle.std.specs.Prelude.{◌≡◌, ◌==◌, ℕ, List, ◌∷◌, ◌++◌, false, Option, Some, None}
use Rattle.std.specs.List.{All}

-- the first occurrence of a byte in a text is between these parts
pub record SplitsAt (byte : ℕ) (text before after : List ℕ) : Type 0 where
  pub none_before : All (λ b. (b == byte) ≡ false) before
  pub parts : text ≡ before ++ byte ∷ after

-- a text begins with a word, which ends before a comma (44) or with the text
abbrev pub SplitsWord : (text word : List ℕ) → (after : Option (List ℕ)) → Type 0
SplitsWord text word (Some after) = SplitsAt 44 text word after
SplitsWord text word None = (word ≡ text) × All (λ b. (b == 44) ≡ false) text
