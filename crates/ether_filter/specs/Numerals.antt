-- Numbers and addresses as words.
use Rattle.std.specs.Prelude.{◌≡◌, ℕ, ◌^◌, List, [], ◌∷◌, length, drop, map, min, slice_index, Option, Some, None, option_map, nat_eq, nat_lt, ◌&&◌, if◌then◌else◌}
use Rattle.std.specs.List.{list_all}
use Rattle.std.specs.Char.{digit_value}
use Rattle.std.specs.Str.Parse.{digits_value}

-- the number that digits write; none if there are no digits, or other characters
abbrev pub digits_in : (radix : ℕ) → List ℕ → Option ℕ
digits_in radix ds =
    if nat_lt 0 (length ds) && list_all (λ c. nat_lt (digit_value c) radix) ds then Some (digits_value radix ds)
    else None

-- a number that fits in 32 bits
abbrev pub within_32_bits : ℕ → Option ℕ
within_32_bits n = if nat_lt n (2 ^ 32) then Some n else None

-- "0x" (48, 120) and hexadecimal digits, or decimal digits without a leading zero, which pcap-filter(7) would read as
-- octal
abbrev pub whole_number_in : List ℕ → Option ℕ
whole_number_in word =
    if nat_lt 1 (length word) && nat_eq (slice_index word 0) 48
    then (if nat_eq (slice_index word 1) 120 then digits_in 16 (drop 2 word) else None)
    else digits_in 10 word

abbrev pub number_in : List ℕ → Option (Option ℕ)
number_in word = option_map within_32_bits (whole_number_in word)

-- a number that fits in 64 bits
abbrev pub within_64_bits : ℕ → Option ℕ
within_64_bits n = if nat_lt n (2 ^ 64) then Some n else None

abbrev pub wide_number_in : List ℕ → Option (Option ℕ)
wide_number_in word = option_map within_64_bits (whole_number_in word)

abbrev pub narrowed : Option ℕ → Option ℕ
narrowed None = None
narrowed (Some n) = within_64_bits n

abbrev pub colon_places : List ℕ
colon_places = 2 ∷ 5 ∷ 8 ∷ 11 ∷ 14 ∷ []

abbrev pub digit_places : List ℕ
digit_places = 0 ∷ 1 ∷ 3 ∷ 4 ∷ 6 ∷ 7 ∷ 9 ∷ 10 ∷ 12 ∷ 13 ∷ 15 ∷ 16 ∷ []

-- xx:xx:xx:xx:xx:xx, where each x is a hexadecimal digit and 58 is the colon
abbrev pub pairs_in : List ℕ → Option ℕ
pairs_in word =
    if nat_eq (length word) 17 && list_all (λ i. nat_eq (slice_index word i) 58) colon_places
    then digits_in 16 (map (slice_index word) digit_places) else None

-- .. or the twelve digits alone
abbrev pub address_in : List ℕ → Option ℕ
address_in word = if nat_eq (length word) 12 then digits_in 16 word else pairs_in word

-- the number that digits write, at most 2^64
pub record IsCapped (radix : ℕ) (ds : List ℕ) (value : ℕ) : Type 0 where
  pub number : ℕ
  pub is : digits_in radix ds ≡ Some number
  pub capped : value ≡ min number (2 ^ 64)

-- the number in a word, at most 2^64
pub record IsCappedNumber (word : List ℕ) (value : ℕ) : Type 0 where
  pub number : ℕ
  pub is : whole_number_in word ≡ Some number
  pub capped : value ≡ min number (2 ^ 64)
