-- The frame that a line of hexadecimal digits names.
use Rattle.std.specs.Prelude.{◌≡◌, ℕ, ◌+◌, ◌*◌, ◌%◌, ◌<◌, ◌≤◌, List, length, slice_index, Some, None}
use Rattle.hex.specs.Hex.{hex_digit_value}

-- the longest frame that a line can name, in bytes, and its line, in digits
abbrev pub max_frame_len : ℕ
max_frame_len = 2048

abbrev pub max_line_digits : ℕ
max_line_digits = 2 * max_frame_len

-- two digits name a byte: 16 times the value of the first, and the value of the second
pub record NameByte (first second byte : ℕ) : Type 0 where
  pub high : ℕ
  pub low : ℕ
  pub first_value : hex_digit_value first ≡ Some high
  pub second_value : hex_digit_value second ≡ Some low
  pub whole : byte ≡ 16 * high + low

-- a line of at most 4,096 digits, two for each byte of the frame
pub record IsFrame (line frame : List ℕ) : Type 0 where
  pub short : length line ≤ max_line_digits
  pub pairs : length line ≡ 2 * length frame
  pub bytes : (i : ℕ) → i < length frame
      → NameByte (slice_index line (2 * i)) (slice_index line (2 * i + 1)) (slice_index frame i)

-- a line that names no frame: it is too long, has an odd number of digits, or has a character that is not a digit
pub data IsBadLine (line : List ℕ) : Type 0 where
  too_long : max_line_digits < length line → IsBadLine line
  odd : length line % 2 ≡ 1 → IsBadLine line
  no_digit : (i : ℕ) → i < length line → hex_digit_value (slice_index line i) ≡ None → IsBadLine line
