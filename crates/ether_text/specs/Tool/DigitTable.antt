-- What a table has for each character.
use Rattle.std.specs.Prelude.{◌≡◌, ℕ, ◌<◌, List, slice_index, unwrap_or}
use Rattle.hex.specs.Hex.{hex_digit_value}

-- the value of a digit, or 128 for a character that is not a digit
abbrev pub entry_of : ℕ → ℕ
entry_of c = unwrap_or (hex_digit_value c) 128

-- the entry of each character
abbrev pub AreEntries : List ℕ → Type 0
AreEntries entries = (c : ℕ) → c < 256 → slice_index entries c ≡ entry_of c
