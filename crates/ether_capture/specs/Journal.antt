-- What a journal holds at first.
use Rattle.std.specs.Prelude.{ℕ, List, [], Bool, true, false, Option, Some, None}

abbrev pub known_if : Bool → Option (List ℕ)
known_if true = Some []
known_if false = None
