-- Numbers in a capture file.
use Rattle.std.specs.Prelude.{ℕ, ◌+◌, ◌*◌, List, [], ◌∷◌, slice_range}
use Rattle.ether_base.specs.Bytes.{number}

-- the order of the bytes of each number, that of the machine that wrote the file: the most significant byte first, or
-- last
pub data Order : Type 0 where
  BigEndian : Order
  LittleEndian : Order

-- the number of bytes that begin with the least significant one
abbrev pub number_from_low : List ℕ → ℕ
number_from_low [] = 0
number_from_low (b ∷ bytes) = b + 256 * number_from_low bytes

abbrev pub number_in : Order → List ℕ → ℕ
number_in BigEndian bytes = number bytes
number_in LittleEndian bytes = number_from_low bytes

-- the number in the bytes from the first offset up to the second
abbrev pub field : Order → List ℕ → ℕ → ℕ → ℕ
field order bytes start end = number_in order (slice_range bytes start end)
