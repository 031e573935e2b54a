-- Lists of bytes, and the numbers that they spell: the first byte is the most significant one, as on the wire.
use Rattle.std.specs.Prelude.{ℕ, zero, suc, ◌+◌, ◌*◌, ◌/◌, ◌%◌, ◌^◌, ◌<◌, List, [], ◌∷◌, ◌++◌, length, take, drop, slice_index, Bool, true, false}

-- each element is from 0 to 255
abbrev pub IsBytes : List ℕ → Type 0
IsBytes bytes = (i : ℕ) → slice_index bytes i < 256

-- the number whose digits to the base 256 are the bytes, the most significant one first
abbrev pub number : List ℕ → ℕ
number [] = 0
number (b ∷ bytes) = b * 256 ^ length bytes + number bytes

-- the k bytes whose number is n, for an n below 256 ^ k
unfoldable pub spelled : ℕ → ℕ → List ℕ
spelled zero n = []
spelled (suc k) n = n / 256 ^ k % 256 ∷ spelled k n

-- a flag as the number of its bit
abbrev pub bit : Bool → ℕ
bit false = 0
bit true = 1

-- a list in which these bytes, from a place on, replace as many of its own
abbrev pub overwritten : List ℕ → ℕ → List ℕ → List ℕ
overwritten list at bytes = take at list ++ bytes ++ drop (at + length bytes) list
