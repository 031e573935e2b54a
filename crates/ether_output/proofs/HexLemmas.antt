-- The tables of the digits of each byte.
use Rattle.std.proofs.Common.{◌≡◌, ℕ, zero, suc, ◌+◌, ◌/◌, ◌%◌, ◌<◌, Bool, true, false, List, [], ◌∷◌, ◌++◌, codes, slice_index_or, refl, ap, ◌∙◌, arith}
use Rattle.std.specs.Fmt.{digit_glyph}
use Rattle.ether_base.specs.Texts.NumberText.{hex_byte}
use Rattle.etherparse.specs.NumberText.{hex_number}
use Rattle.ether_output.specs.declared.hex_digits.TheConstants.{LOWER_PAIRS, UPPER_PAIRS}

-- the digits of so many bytes, from one on
abbrev pairs_from : (upper : Bool) → (byte n : ℕ) → List (List ℕ)
pairs_from upper byte zero = []
pairs_from upper byte (suc n) = hex_byte upper byte ∷ pairs_from upper (suc byte) n

pair_in : (upper : Bool) (byte n k : ℕ) → k < n
    → slice_index_or (pairs_from upper byte n) k [] ≡ hex_byte upper (byte + k)
pair_in upper byte zero k lt = absurd (omega arith)
pair_in upper byte (suc n) zero lt = let e : byte ≡ byte + 0 = omega arith in ap (hex_byte upper) e
pair_in upper byte (suc n) (suc k) lt =
    let e : suc byte + k ≡ byte + suc k = omega arith in
    pair_in upper (suc byte) n k (omega arith) ∙ ap (hex_byte upper) e

is_lower_table : LOWER_PAIRS ≡ pairs_from false 0 256
is_lower_table = refl

is_upper_table : UPPER_PAIRS ≡ pairs_from true 0 256
is_upper_table = refl

pair_at : (upper : Bool) (table : List (List ℕ)) → table ≡ pairs_from upper 0 256 → (k : ℕ) → k < 256
    → slice_index_or table k [] ≡ hex_byte upper k
pair_at upper table is k lt =
    let e : 0 + k ≡ k = omega arith in
    ap (λ (l : List (List ℕ)). slice_index_or l k []) is ∙ pair_in upper 0 256 k lt ∙ ap (hex_byte upper) e

pub lower_pair : (k : ℕ) → k < 256 → slice_index_or LOWER_PAIRS k [] ≡ hex_byte false k
lower_pair = pair_at false LOWER_PAIRS is_lower_table

pub upper_pair : (k : ℕ) → k < 256 → slice_index_or UPPER_PAIRS k [] ≡ hex_byte true k
upper_pair = pair_at true UPPER_PAIRS is_upper_table

-- the digits of both bytes of a number of 16 bits
pub two_bytes : (n : ℕ) → n < 65536 → codes "0x" ++ (hex_byte true (n / 256) ++ hex_byte true (n % 256)) ≡ hex_number n
unfolding hex_number
two_bytes n lt =
    let first : n / 256 / 16 ≡ n / 4096 = omega arith in
    let third : n % 256 / 16 ≡ n / 16 % 16 = omega arith in
    let last : n % 256 % 16 ≡ n % 16 = omega arith in
    λ i. 48 ∷ 120 ∷ digit_glyph true (first i) ∷ digit_glyph true (n / 256 % 16) ∷ digit_glyph true (third i)
    ∷ digit_glyph true (last i) ∷ []
