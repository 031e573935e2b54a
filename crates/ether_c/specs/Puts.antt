-- Arrays of the caller that get a value for each item of a list.
use Rattle.std.specs.Prelude.{◌≡◌, ℕ, ◌<◌, ◌≤◌, List, [], ◌∷◌, ◌++◌, length, drop}
use Rattle.ether_c.specs.Numbers.{done, no_room}

-- each item of one list fits the value at the same index of the other
abbrev pub AllMatched : {A B : Type 0} → (A → B → Type 0) → List A → List B → Type 0
AllMatched Fits [] [] = Unit {0}
AllMatched Fits (a ∷ items) (b ∷ values) = Fits a b × AllMatched Fits items values
AllMatched Fits _ _ = ⊥

-- The array has a value for each item, from its front on, and then what it held before; or it is too short, and
-- unchanged.
pub record PutsEach {A B : Type 0} (Fits : A → B → Type 0) (items : List A) (old new : List B)
    (status : ℕ) : Type 0 where
  pub put : length items ≤ length old
      → (values : List B) × AllMatched Fits items values × (new ≡ values ++ drop (length items) old) × (status ≡ done)
  pub kept : length old < length items → (new ≡ old) × (status ≡ no_room)
