-- Numbers and bytes as bits, and bits as bytes: the first bit of a byte is its most significant one, as on the wire.
use Rattle.std.specs.Prelude.{ℕ, zero, suc, ◌+◌, ◌*◌, ◌/◌, ◌%◌, ◌^◌, List, [], ◌∷◌, ◌++◌, take, drop, Bool, nat_eq}
use Rattle.std.specs.List.{flat_map}
use Rattle.ether_base.specs.Bytes.{bit}

-- the last k bits of a number
unfoldable pub bits : (k n : ℕ) → List Bool
bits zero n = []
bits (suc k) n = nat_eq (n / 2 ^ k % 2) 1 ∷ bits k n

-- the bits of bytes, one byte after the other
abbrev pub bits_of : List ℕ → List Bool
bits_of bytes = flat_map (bits 8) bytes

abbrev pub byte_of : (a b c d e f g h : Bool) → ℕ
byte_of a b c d e f g h =
    128 * bit a + 64 * bit b + 32 * bit c + 16 * bit d + 8 * bit e + 4 * bit f + 2 * bit g + bit h

-- the bytes of bits, eight in each
abbrev pub packed : List Bool → List ℕ
packed (a ∷ b ∷ c ∷ d ∷ e ∷ f ∷ g ∷ h ∷ rest) = byte_of a b c d e f g h ∷ packed rest
packed _ = []

-- bits in which the last `len` bits of a number replace as many, from a place on
abbrev pub with_bits : (at len n : ℕ) → List Bool → List Bool
with_bits at len n bs = take at bs ++ (bits len n ++ drop (at + len) bs)
