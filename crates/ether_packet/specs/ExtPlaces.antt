-- Up to three tags as a list.
use Rattle.std.specs.Prelude.{◌≡◌, List, [], ◌∷◌, Option, Some, None}

abbrev pub listed : {X : Type 0} → (first second third : Option X) → List X
listed None second third = []
listed (Some x) None third = x ∷ []
listed (Some x) (Some y) None = x ∷ y ∷ []
listed (Some x) (Some y) (Some z) = x ∷ y ∷ z ∷ []

-- a later place is used only if all places before it are
abbrev pub IsGapless : {X : Type 0} → (first second third : Option X) → Type 0
IsGapless first second third = (first ≡ None → second ≡ None) × (second ≡ None → third ≡ None)
