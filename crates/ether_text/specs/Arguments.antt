-- The words of a program's arguments.
use Rattle.std.specs.Prelude.{ℕ, List, drop, map, string_bytes, String, Option, Some, None, Result, Ok, Err}
use Rattle.std.specs.Vec.Iter.{into_iter_items}
use Rattle.std.specs.declared.vec.IntoIter.{IntoIter}

-- the words of the arguments after the program's own name
abbrev pub words_after : {A : Type 0} → List (String A) → List (List ℕ)
words_after args = drop 1 (map string_bytes args)

-- the words of the arguments after the program's own name, if they can be read
abbrev pub words_of : {A E : Type 0} → Result (IntoIter (String A) A) E → Option (List (List ℕ))
words_of (Ok args) = Some (words_after (into_iter_items args))
words_of (Err error) = None
