-- Bits of numbers and of bytes, packed.
use Rattle.std.proofs.Common.{◌≡◌, ℕ, zero, suc, ◌+◌, ◌*◌, ◌/◌, ◌%◌, ◌^◌, ◌<◌, inl, inr, nat_eq, Bool, List, [], ◌∷◌, ◌++◌, refl, sym, ap, ap₂, ◌∙◌, arith, append_assoc, pow-add}
use Rattle.std.proofs.lemmas.Bool.{cases_eq, ne_eqb, eq-eqb}
use Rattle.std.proofs.lemmas.Nat.{div-mul-add, div-add-mod', pow_pos}
use Rattle.std.proofs.Math.Nat.{div-div-eq-div-mul, mul-add-div, mul_comm, mul_assoc, mod-lt, pow-suc}
use Rattle.ether_base.specs.Bytes.{IsBytes, bit, spelled}
use Rattle.etherparse.proofs.Numbers.{IsBytes-tail, IsBytes-spelled}
use Rattle.ether_make.specs.Bits.{bits, bits_of, packed}

pub bits-suc : (k n : ℕ) → bits (suc k) n ≡ nat_eq (n / 2 ^ k % 2) 1 ∷ bits k n
unfolding bits
bits-suc k n = refl

pub bits-zero : (n : ℕ) → bits zero n ≡ []
unfolding bits
bits-zero n = refl

two_power : (k : ℕ) → 2 ^ suc k ≡ 2 ^ k * 2
two_power k = let e : suc k ≡ k + 1 = omega arith in ap (λ j. 2 ^ j) e ∙ pow-add 2 k 1

-- what is above k bits is no part of them
pub bits-low : (k c y : ℕ) → bits k (c * 2 ^ k + y) ≡ bits k y
bits-low zero c y = bits-zero _ ∙ sym (bits-zero y)
bits-low (suc k) c y =
    let unit = 2 ^ k in
    let same : c * 2 ^ suc k + y ≡ unit * (c * 2) + y = ap (λ m. m + y) (ap (λ m. c * m) (two_power k)
    ∙ mul_comm c (unit * 2) ∙ mul_assoc unit 2 c ∙ ap (λ m. unit * m) (mul_comm 2 c)) in
    let part : (unit * (c * 2) + y) / unit ≡ c * 2 + y / unit = mul-add-div (pow_pos k) (c * 2) y in
    let parity : (c * 2 + y / unit) % 2 ≡ y / unit % 2 = omega arith in
    ap (bits (suc k)) same ∙ bits-suc k (unit * (c * 2) + y)
    ∙ ap₂ (λ m l. nat_eq m 1 ∷ l) (ap (λ m. m % 2) part ∙ parity)
    (ap (λ m. bits k (m + y)) (mul_comm unit (c * 2)) ∙ bits-low k (c * 2) y)
    ∙ sym (bits-suc k y)

-- the bits of a number of two parts are those of the parts
pub bits-join : (a b x y : ℕ) → y < 2 ^ b → bits (a + b) (x * 2 ^ b + y) ≡ bits a x ++ bits b y
bits-join zero b x y small =
    let none : zero + b ≡ b = omega arith in
    ap (λ k. bits k (x * 2 ^ b + y)) none ∙ bits-low b x y ∙ ap (λ l. l ++ bits b y) (sym (bits-zero x))
bits-join (suc a) b x y small =
    let next : suc a + b ≡ suc (a + b) = omega arith in
    let whole = x * 2 ^ b + y in
    let high : whole / 2 ^ (a + b) ≡ x / 2 ^ a =
    ap (λ m. whole / m) (pow-add 2 a b ∙ mul_comm (2 ^ a) (2 ^ b)) ∙ sym (div-div-eq-div-mul whole (2 ^ b) (2 ^ a))
    ∙ ap (λ m. m / 2 ^ a) (div-mul-add x (2 ^ b) y small) in
    ap (λ k. bits k whole) next ∙ bits-suc (a + b) whole
    ∙ ap₂ (λ m l. nat_eq (m % 2) 1 ∷ l) high (bits-join a b x y small)
    ∙ ap (λ l. l ++ bits b y) (sym (bits-suc a x))

bit_of : (m : ℕ) → bit (nat_eq (m % 2) 1) ≡ m % 2
bit_of m = elim (cases_eq (m % 2) 1) [
  | inl e ↦ rw (eq-eqb (m % 2) 1 e) (sym e)
  | inr n ↦ let e : m % 2 ≡ 0 = omega arith in rw (ne_eqb (m % 2) 1 n) (sym e)
]

byte_packed : (b : ℕ) → b < 256 → (rest : List Bool) → packed (bits 8 b ++ rest) ≡ b ∷ packed rest
unfolding bits
byte_packed b small rest =
    let sum : 128 * (b / 128 % 2) + 64 * (b / 64 % 2) + 32 * (b / 32 % 2) + 16 * (b / 16 % 2) + 8 * (b / 8 % 2)
    + 4 * (b / 4 % 2) + 2 * (b / 2 % 2) + b / 1 % 2 ≡ b = omega arith in
    ap (λ x. x ∷ packed rest)
    (rw (
      bit_of (b / 128),
      bit_of (b / 64),
      bit_of (b / 32),
      bit_of (b / 16),
      bit_of (b / 8),
      bit_of (b / 4),
      bit_of
          (b / 2),
      bit_of (b / 1),
    ) sum)

pub bytes_packed : (bytes : List ℕ) → IsBytes bytes → (rest : List Bool)
    → packed (bits_of bytes ++ rest) ≡ bytes ++ packed rest
bytes_packed [] ok rest = refl
bytes_packed (b ∷ bs) ok rest =
    ap packed (append_assoc (bits 8 b) (bits_of bs) rest) ∙ byte_packed b (ok 0) (bits_of bs ++ rest)
    ∙ ap (λ l. b ∷ l) (bytes_packed bs (IsBytes-tail b bs ok) rest)

pub byte_power : (k : ℕ) → 256 ^ k ≡ 2 ^ (8 * k)
byte_power zero = refl
byte_power (suc k) =
    let more : 8 * suc k ≡ 8 * k + 8 = omega arith in
    pow-suc 256 k ∙ ap (λ m. m * 256) (byte_power k) ∙ sym (pow-add 2 (8 * k) 8) ∙ ap (λ j. 2 ^ j) (sym more)

pub bits-mod : (k n : ℕ) → bits k (n % 2 ^ k) ≡ bits k n
bits-mod k n = sym (bits-low k (n / 2 ^ k) (n % 2 ^ k)) ∙ ap (bits k) (div-add-mod' n (2 ^ k))

-- the bits of the bytes that spell a number are those of the number
pub bits_of-spelled : (k n : ℕ) → bits_of (spelled k n) ≡ bits (8 * k) n
unfolding spelled
bits_of-spelled zero n = sym (bits-zero n)
bits_of-spelled (suc k) n =
    let low = 8 * k in
    let more : 8 * suc k ≡ 8 + low = omega arith in
    let parts : n / 2 ^ low * 2 ^ low + n % 2 ^ low ≡ n = div-add-mod' n (2 ^ low) in
    ap₂ (λ (x y : List Bool). x ++ y) (bits-mod 8 (n / 256 ^ k)
    ∙ ap (λ m. bits 8 (n / m)) (byte_power k)) (bits_of-spelled k n)
    ∙ ap (λ l. bits 8 (n / 2 ^ low) ++ l) (sym (bits-mod low n))
    ∙ sym (bits-join 8 low (n / 2 ^ low) (n % 2 ^ low) (mod-lt n (pow_pos low)))
    ∙ ap (bits (8 + low)) parts ∙ ap (λ j. bits j n) (sym more)

pub number_packed : (k n : ℕ) (rest : List Bool) → packed (bits (8 * k) n ++ rest) ≡ spelled k n ++ packed rest
number_packed k n rest =
    ap (λ l. packed (l ++ rest)) (sym (bits_of-spelled k n)) ∙ bytes_packed (spelled k n) (IsBytes-spelled k n) rest
