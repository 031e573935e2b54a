-- Members that an object has twice.
use Rattle.std.specs.Prelude.{List, ℕ, Bool, true, false, IfSome, IsSomeAnd}
use Rattle.json.specs.Json.{document}
use Rattle.json.specs.Strict.{HasUniqueKeys}

-- a text is no value of JSON, or one in which no object, at any depth, has two members of one name
abbrev pub IsUnique : List ℕ → Type 0
IsUnique text = IfSome (document text) HasUniqueKeys

-- a text is a value of JSON in which an object has two members of one name
abbrev pub IsRepeated : List ℕ → Type 0
IsRepeated text = IsSomeAnd (document text) (λ j. ¬ HasUniqueKeys j)

abbrev pub TellsUnique : List ℕ → Bool → Type 0
TellsUnique text true = IsUnique text
TellsUnique text false = IsRepeated text
