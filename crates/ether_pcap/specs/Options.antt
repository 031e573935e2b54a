-- The options at the end of a block of a pcapng file (draft-ietf-opsawg-pcapng, section 3.5).
use Rattle.std.specs.Prelude.{◌≡◌, ◌≢◌, ℕ, ◌+◌, ◌*◌, ◌/◌, ◌≤◌, List, [], ◌∷◌, length, drop, nat_eq, slice_range, Option, Some, None, if◌then◌else◌}
use Rattle.ether_pcap.specs.Numbers.{Order, field}

-- a number of bytes, rounded up to a multiple of 4
abbrev pub padded : ℕ → ℕ
padded n = (n + 3) / 4 * 4

pub record OptionValue : Type 0 where
  pub code : ℕ
  pub value : List ℕ

-- code 2 bytes, length of the value 2 bytes, value; code 0 is the end of the options
pub record BeginsOption (order : Order) (bytes : List ℕ) (o : OptionValue) : Type 0 where
  pub code : field order bytes 0 2 ≡ o.code
  pub no_end : o.code ≢ 0
  pub len : field order bytes 2 4 ≡ length o.value
  pub value : slice_range bytes 4 (4 + length o.value) ≡ o.value
  pub whole : 4 + length o.value ≤ length bytes

-- the options of bytes, one after the other, up to bytes that do not begin with an option
abbrev pub HasOptions : Order → List ℕ → List OptionValue → Type 0
HasOptions order bytes [] = (o : OptionValue) → BeginsOption order bytes o → ⊥
HasOptions order bytes (o ∷ options) =
    BeginsOption order bytes o × HasOptions order (drop (4 + padded (length o.value)) bytes) options

-- the value of the first option with this code
abbrev pub value_of : ℕ → List OptionValue → Option (List ℕ)
value_of code [] = None
value_of code (o ∷ options) = if nat_eq o.code code then Some o.value else value_of code options

-- a value of this many bytes as a number
abbrev pub number_of : Order → ℕ → Option (List ℕ) → Option ℕ
number_of order n None = None
number_of order n (Some value) = if nat_eq (length value) n then Some (field order value 0 n) else None

-- a value of one byte
abbrev pub byte_of : Option (List ℕ) → Option ℕ
byte_of (Some (b ∷ [])) = Some b
byte_of _ = None
