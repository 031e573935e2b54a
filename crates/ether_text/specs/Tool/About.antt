-- What the program says of itself, and the words that ask for it.
use Rattle.std.specs.Prelude.{ℕ, List, [], ◌∷◌, codes}
use Rattle.ether_text.specs.declared.tool.about.TheConstants.{HELP, VERSION}

pub data Tells : List (List ℕ) → List ℕ → Type 0 where
  help : Tells (codes "--help" ∷ []) HELP.now
  version : Tells (codes "--version" ∷ []) VERSION.now
