-- Numbers as text, and descriptions in a table.
use Rattle.std.specs.Prelude.{ℕ, ◌/◌, ◌%◌, List, [], ◌∷◌, ◌++◌, Option, Some, None, Bool, true, codes, ◌==◌, if◌then◌else◌}
use Rattle.std.specs.Fmt.{digit_glyph}

-- the description of a number: that of the first row that begins with it
abbrev pub description_in : List (ℕ × List ℕ) → ℕ → Option (List ℕ)
description_in [] number = None
description_in (row ∷ rows) number = if number == row.0 then Some row.1 else description_in rows number

-- a byte as two hexadecimal digits, in upper case or in lower case
abbrev pub hex_byte : (upper : Bool) → ℕ → List ℕ
hex_byte upper n = digit_glyph upper (n / 16) ∷ digit_glyph upper (n % 16) ∷ []

-- `0x` and the four upper-case hexadecimal digits of a number below 65536
unfoldable pub hex_number : ℕ → List ℕ
hex_number number =
    codes "0x"
    ++ (digit_glyph true (number / 4096) ∷ digit_glyph true (number / 256 % 16) ∷ digit_glyph true (number / 16 % 16)
    ∷ digit_glyph true (number % 16) ∷ [])

-- digits, a space and a description in parentheses
abbrev pub described : List ℕ → List ℕ → List ℕ
described digits description = digits ++ (codes " (" ++ (description ++ codes ")"))
