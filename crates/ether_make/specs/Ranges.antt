-- Ranges of numbers: an object in place of a field's value.
use Rattle.std.specs.Prelude.{ℕ, ◌-◌, ◌*◌, ◌/◌, ◌^◌, List, [], ◌∷◌, length, codes, Bool, false, Option, Some, None, nat_eq, nat_le, nat_lt, ◌&&◌, if◌then◌else◌}
use Rattle.std.specs.Option.{option_and_then, is_none}
use Rattle.serde_json.specs.Data.{Data}
use Rattle.serde_json.specs.Find.{as_bool, as_str}
use Rattle.ether_base.specs.Bytes.{number}
use Rattle.ether_fields.specs.declared.kind.Kind.{Kind}
use Rattle.ether_make.specs.declared.range.NumberRange.{NumberRange}
use Rattle.ether_make.specs.FieldBits.{is_text, text_bytes}
use Rattle.ether_make.specs.Objects.{given, number_of, unknown_member}

-- ---- its bounds

-- the number that bytes spell, if they have as many bits
abbrev pub spelled_number : (len : ℕ) → Option (List ℕ) → Option ℕ
spelled_number len None = None
spelled_number len (Some bytes) = if nat_eq (8 * length bytes) len then Some (number bytes) else None

abbrev pub small_number : (len : ℕ) → Option ℕ → Option ℕ
small_number len None = None
small_number len (Some n) = if nat_lt n (2 ^ len) then Some n else None

-- the number of a value with as many bits, which is a text or a number
abbrev pub bound : Kind → (len : ℕ) → Data → Option ℕ
bound kind len d =
    if is_text kind then spelled_number len (option_and_then (text_bytes kind) (as_str d))
    else small_number len (number_of d)

abbrev pub positive : ℕ → Option ℕ
positive n = if nat_eq n 0 then None else Some n

-- what is between two numbers: 1, or what is given
abbrev pub step : Option Data → Option ℕ
step None = Some 1
step (Some d) = option_and_then positive (number_of d)

-- whether numbers are drawn
abbrev pub random : Option Data → Option Bool
random None = Some false
random (Some d) = as_bool d

-- ---- the range

-- the numbers from one to another
abbrev pub counted : (from to step : ℕ) → (is_random : Bool) → Option NumberRange
counted from to step is_random =
    if nat_le from to then
    Some (record { from = from; step = step; last = (to - from) / step; is_random = is_random }) else None

abbrev pub range_names : List (List ℕ)
range_names = codes "from" ∷ codes "to" ∷ codes "step" ∷ codes "random" ∷ []

abbrev pub range_in : Kind → (len : ℕ) → Data → Option NumberRange
range_in kind len d =
    option_and_then (λ from. option_and_then (λ to. option_and_then (λ by. option_and_then (counted from to by)
    (random (given (codes "random") d))) (step (given (codes "step") d)))
    (option_and_then (bound kind len) (given (codes "to") d)))
    (option_and_then (bound kind len) (given (codes "from") d))

-- An object with the members `from` and `to`, and, if they are wanted, `step` and `random`. The field has 64 bits at
-- most.
abbrev pub range : Kind → (len : ℕ) → Data → Option NumberRange
range kind len d = if nat_le len 64 && is_none (unknown_member range_names d) then range_in kind len d else None
