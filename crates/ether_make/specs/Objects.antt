-- Members of an object.
use Rattle.std.specs.Prelude.{ℕ, List, [], ◌∷◌, codes, Bool, false, ◌||◌, Option, Some, None, unwrap_or, if◌then◌else◌}
use Rattle.std.specs.Option.{option_and_then}
use Rattle.std.specs.Str.{bytes_eq}
use Rattle.serde_json.specs.Data.{Data, null, boolean, number, string, array, object, Members, no_members, member, Items, no_items, item}
use Rattle.serde_json.specs.Find.{get, as_number, as_u64, as_object}

abbrev pub not_null_of : Data → Option Data
not_null_of null = None
not_null_of d = Some d

-- `null` is a value that is missing
abbrev pub not_null : Option Data → Option Data
not_null d = option_and_then not_null_of d

-- the value of a member
abbrev pub given : (name : List ℕ) → Data → Option Data
given name d = not_null (get name d)

-- the first value of a range, which is an object that has one; any other value is its own
abbrev pub first_of : Data → Option Data
first_of null = None
first_of (boolean b) = Some (boolean b)
first_of (number n) = Some (number n)
first_of (string s) = Some (string s)
first_of (array ds) = Some (array ds)
first_of (object ms) = Some (unwrap_or (given (codes "from") (object ms)) (object ms))

-- the value of a field
abbrev pub first_given : (name : List ℕ) → Data → Option Data
first_given name d = option_and_then first_of (given name d)

-- a number from 0 on
abbrev pub number_of : Data → Option ℕ
number_of d = option_and_then as_u64 (as_number d)

abbrev pub is_among : List (List ℕ) → List ℕ → Bool
is_among [] name = false
is_among (n ∷ ns) name = bytes_eq n name || is_among ns name

-- the first member, in the order of an object, whose name is not among these
abbrev pub unknown_in : (known : List (List ℕ)) → Members → Option (List ℕ)
unknown_in known no_members = None
unknown_in known (member name d ms) = if is_among known name then unknown_in known ms else Some name

abbrev pub unknown_member : (known : List (List ℕ)) → Data → Option (List ℕ)
unknown_member known d = option_and_then (unknown_in known) (as_object d)

abbrev pub listed : Items → List Data
listed no_items = []
listed (item d ds) = d ∷ listed ds
