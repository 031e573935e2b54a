-- Strings that are written one after the other: for the contracts of private functions.
use Rattle.std.specs.Prelude.{ℕ, List, [], ◌∷◌, ◌++◌, Bool, false}
use Rattle.ether_format.specs.Spelling.{json_text}
use Rattle.ether_format.specs.Values.{comma_if}

-- strings, and a comma before the first if others precede
abbrev pub texts_on : (is_first : Bool) → List (List ℕ) → List ℕ
texts_on is_first [] = []
texts_on is_first (f ∷ fs) = comma_if is_first ++ (json_text f ++ texts_on false fs)
