-- What the file of a copy has after a fault.
use Rattle.std.specs.Prelude.{ℕ, List, [], ◌∷◌, Bool, true, false, Option, Some, None}

-- After a fault of what is copied: what was copied before it, if that is kept and there is something; else what the
-- file had.
abbrev pub kept_of : (keeps : Bool) → (copied had : Option (List ℕ)) → Option (List ℕ)
kept_of false copied had = had
kept_of true None had = None
kept_of true (Some []) had = had
kept_of true (Some (byte ∷ bytes)) had = Some (byte ∷ bytes)
