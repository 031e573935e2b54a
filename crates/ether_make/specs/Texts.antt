-- Bytes as texts.
use Rattle.std.specs.Prelude.{ℕ, ◌+◌, ◌-◌, ◌*◌, List, [], ◌∷◌, Option, Some, None, nat_eq, nat_le, nat_lt, ◌&&◌, if◌then◌else◌}
use Rattle.std.specs.Option.{option_map, option_and_then}

-- a hexadecimal digit (RFC 5234, B.1, HEXDIG; in letters of either case)
abbrev pub hex_digit : ℕ → Option ℕ
hex_digit c =
    if nat_le 48 c && nat_le c 57 then Some (c - 48)
    else (if nat_le 97 c && nat_le c 102 then Some (c - 87)
    else (if nat_le 65 c && nat_le c 70 then Some (c - 55) else None))

-- two of them
abbrev pub hex_pair : (a b : ℕ) → Option ℕ
hex_pair a b = option_and_then (λ high. option_map (λ low. 16 * high + low) (hex_digit b)) (hex_digit a)

-- a byte, and more bytes
abbrev pub and_more : Option ℕ → Option (List ℕ) → Option (List ℕ)
and_more byte more = option_and_then (λ b. option_map (λ bs. b ∷ bs) more) byte

-- pairs of hexadecimal digits
abbrev pub hex_bytes : List ℕ → Option (List ℕ)
hex_bytes [] = Some []
hex_bytes (a ∷ []) = None
hex_bytes (a ∷ b ∷ rest) = and_more (hex_pair a b) (hex_bytes rest)

-- pairs of them, each after a colon (58)
abbrev pub pairs_after : List ℕ → Option (List ℕ)
pairs_after [] = Some []
pairs_after (c ∷ []) = None
pairs_after (c ∷ a ∷ []) = None
pairs_after (c ∷ a ∷ b ∷ rest) = if nat_eq c 58 then and_more (hex_pair a b) (pairs_after rest) else None

-- pairs of them with a colon between two (IEEE 802, 8.1)
abbrev pub colon_bytes : List ℕ → Option (List ℕ)
colon_bytes [] = Some []
colon_bytes (a ∷ rest) = pairs_after (58 ∷ a ∷ rest)

-- a number with one digit more: up to 255, and without a zero at its begin
abbrev pub with_digit : Option ℕ → (c : ℕ) → Option ℕ
with_digit None c = if nat_le 48 c && nat_le c 57 then Some (c - 48) else None
with_digit (Some n) c =
    if nat_le 48 c && nat_le c 57 && nat_lt 0 n && nat_lt (10 * n + (c - 48)) 256 then Some (10 * n +
    (c - 48)) else None

-- the rest of numbers with a dot (46) between two, after the digits of this one
abbrev pub dotted_after : Option ℕ → List ℕ → Option (List ℕ)
dotted_after n [] = and_more n (Some [])
dotted_after n (c ∷ cs) =
    if nat_eq c 46 then and_more n (dotted_after None cs)
    else option_and_then (λ m. dotted_after (Some m) cs) (with_digit n c)

-- numbers up to 255 with a dot between two (RFC 1123, 2.1)
abbrev pub dotted_bytes : List ℕ → Option (List ℕ)
dotted_bytes text = dotted_after None text
