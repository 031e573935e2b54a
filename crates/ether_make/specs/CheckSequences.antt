-- The frame check sequence of Ethernet (IEEE 802.3-2018, 3.2.9).
use Rattle.std.specs.Prelude.{ℕ, zero, suc, ◌+◌, ◌-◌, ◌/◌, ◌%◌, ◌^◌, List, [], ◌∷◌, ◌++◌, length, map, replicate, Bool, true, false, not, nat_eq}
use Rattle.std.specs.List.{flat_map}
use Rattle.ether_make.specs.Bits.{bits, byte_of}

-- ---- polynomials over GF(2)

-- A polynomial is the list of its coefficients, the one of the highest power first.

-- two coefficients: 1 + 1 = 0
abbrev pub plus : Bool → Bool → Bool
plus false b = b
plus true b = not b

-- Two lists are added from their first coefficients on. The shorter one has zeros after it.
abbrev pub added : List Bool → List Bool → List Bool
added [] q = q
added (a ∷ p) [] = a ∷ p
added (a ∷ p) (b ∷ q) = plus a b ∷ added p q

-- the generator without its highest power, x^32
abbrev pub generator : List Bool
generator =
    bits 32 (2 ^ 26 + 2 ^ 23 + 2 ^ 22 + 2 ^ 16 + 2 ^ 12 + 2 ^ 11 + 2 ^ 10 + 2 ^ 8 + 2 ^ 7 + 2 ^ 5 + 2 ^ 4 + 2 ^ 2 + 2
    + 1)

-- n steps of the long division by the generator: each takes the highest power away
unfoldable pub divided : (n : ℕ) → List Bool → List Bool
divided zero p = p
divided (suc n) [] = []
divided (suc n) (false ∷ p) = divided n p
divided (suc n) (true ∷ p) = divided n (added generator p)

-- what is left: 32 coefficients
abbrev pub remainder : List Bool → List Bool
remainder p = divided (length p - 32) p

-- ---- the sequence

-- the last k bits of a number, the least significant one first
unfoldable pub low_bits : (k n : ℕ) → List Bool
low_bits zero n = []
low_bits (suc k) n = nat_eq (n % 2) 1 ∷ low_bits k (n / 2)

-- the bits of bytes in the order in which they are sent: the least significant one of each byte first (3.3)
abbrev pub sent : List ℕ → List Bool
sent bytes = flat_map (low_bits 8) bytes

-- the bytes whose bits are sent in this order
abbrev pub received : List Bool → List ℕ
received (a ∷ b ∷ c ∷ d ∷ e ∷ f ∷ g ∷ h ∷ rest) = byte_of h g f e d c b a ∷ received rest
received _ = []

-- The bits of the frame are a polynomial, which is multiplied by x^32. Its first 32 bits are complemented, and so are
-- those of the remainder, which are sent from the one of x^31 on.
abbrev pub check_bits : List Bool → List Bool
check_bits frame = map not (remainder (added (replicate 32 true) (frame ++ replicate 32 false)))

abbrev pub check_sequence : List ℕ → List ℕ
check_sequence bytes = received (check_bits (sent bytes))
