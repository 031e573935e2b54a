-- Bytes as words, and slices of bytes.
use Rattle.std.specs.Prelude.{ℕ, ◌+◌, ◌-◌, ◌/◌, List, [], ◌∷◌, length, take, drop, slice_index, slice_range, Option, Some, None, option_map, nat_eq, nat_lt, nat_le, ◌&&◌, if◌then◌else◌}
use Rattle.etherparse.specs.Bytes.{number}
use Rattle.ether_filter.specs.Numerals.{number_in, digits_in}
use Rattle.ether_filter.specs.declared.subject.Literal.{Literal}

-- the first place of a character in a text that begins at the offset `at`
abbrev pub place_in : (c at : ℕ) → List ℕ → Option ℕ
place_in c at [] = None
place_in c at (d ∷ ds) = if nat_eq d c then Some at else place_in c (at + 1) ds

-- ---- an address of IPv4

-- a number up to 255
abbrev pub as_byte : Option (Option ℕ) → Option ℕ
as_byte (Some (Some n)) = if nat_lt n 256 then Some n else None
as_byte _ = None

abbrev pub byte_in : List ℕ → Option ℕ
byte_in word = as_byte (number_in word)

abbrev pub part_at : List ℕ → Option ℕ → Option (ℕ × List ℕ)
part_at word None = None
part_at word (Some dot) = option_map (λ n. (n, drop (dot + 1) word)) (byte_in (take dot word))

-- the number before the first dot (46), and what follows the dot
abbrev pub part_in : List ℕ → Option (ℕ × List ℕ)
part_in word = part_at word (place_in 46 0 word)

abbrev pub four_with : (a b c : ℕ) → Option ℕ → Option Literal
four_with a b c None = None
four_with a b c (Some d) = Some (record { len = 4; number = number (a ∷ b ∷ c ∷ d ∷ []) })

abbrev pub three_with : (a b : ℕ) → Option (ℕ × List ℕ) → Option Literal
three_with a b None = None
three_with a b (Some p) = four_with a b p.0 (byte_in p.1)

abbrev pub two_with : (a : ℕ) → Option (ℕ × List ℕ) → Option Literal
two_with a None = None
two_with a (Some p) = three_with a p.0 (part_in p.1)

abbrev pub one_with : Option (ℕ × List ℕ) → Option Literal
one_with None = None
one_with (Some p) = two_with p.0 (part_in p.1)

-- four numbers up to 255 with dots between them
abbrev pub ipv4_in : List ℕ → Option Literal
ipv4_in word = one_with (part_in word)

-- ---- bytes

-- the digits of pairs with colons (58) between them
abbrev pub pair_digits_in : List ℕ → Option (List ℕ)
pair_digits_in (a ∷ b ∷ []) = Some (a ∷ b ∷ [])
pair_digits_in (a ∷ b ∷ c ∷ rest) =
    if nat_eq c 58 then option_map (λ ds. a ∷ b ∷ ds) (pair_digits_in rest) else None
pair_digits_in _ = None

abbrev pub bytes_with : (len : ℕ) → Option ℕ → Option Literal
bytes_with len None = None
bytes_with len (Some n) = Some (record { len = len; number = n })

abbrev pub bytes_of_digits : (len : ℕ) → Option (List ℕ) → Option Literal
bytes_of_digits len None = None
bytes_of_digits len (Some ds) = bytes_with len (digits_in 16 ds)

-- two to eight pairs of hexadecimal digits with colons between them
abbrev pub bytes_in : List ℕ → Option Literal
bytes_in word =
    if nat_le 5 (length word) && nat_le (length word) 23
    then bytes_of_digits ((length word + 1) / 3) (pair_digits_in word) else None

abbrev pub either_of : Option Literal → Option Literal → Option Literal
either_of (Some bytes) other = Some bytes
either_of None other = other

abbrev pub literal_in : List ℕ → Option Literal
literal_in word = either_of (bytes_in word) (ipv4_in word)

-- ---- a slice

abbrev pub slice_with : (first : ℕ) → Option ℕ → Option (ℕ × ℕ)
slice_with first None = None
slice_with first (Some count) = Some (first, count)

abbrev pub slice_from : Option ℕ → List ℕ → Option (ℕ × ℕ)
slice_from None rest = None
slice_from (Some first) rest = slice_with first (byte_in rest)

abbrev pub slice_at : List ℕ → Option ℕ → Option (ℕ × ℕ)
slice_at body None = None
slice_at body (Some colon) = slice_from (byte_in (take colon body)) (drop (colon + 1) body)

abbrev pub slice_between : List ℕ → Option (ℕ × ℕ)
slice_between body = slice_at body (place_in 58 0 body)

-- two numbers with a colon between them, between brackets, of which the last one is 93
abbrev pub slice_in : List ℕ → Option (ℕ × ℕ)
slice_in text =
    if nat_le 2 (length text) && nat_eq (slice_index text (length text - 1)) 93
    then slice_between (slice_range text 1 (length text - 1)) else None
