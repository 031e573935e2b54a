-- Numbers of ranges.
use Rattle.std.proofs.Common.{◌≡◌, ℕ, suc, ◌+◌, ◌*◌, ◌^◌, ◌<◌, ◌≤◌, List, length, drop, get_or, sym, ap, ◌∙◌, arith}
use Rattle.std.proofs.lemmas.List.{drop_more}
use Rattle.std.proofs.Math.Nat.{add-mul, mul_assoc, mul_comm, pow-suc}
use Rattle.std.proofs.Math.Pow.{pow_mono}
use Rattle.ether_base.specs.Bytes.{number}
use Rattle.ether_make.proofs.BitBytes.{byte_power}

-- a number with one byte more
pub byte-more : (n i b : ℕ) → n < 256 ^ i → b < 256 → n * 256 + b < 256 ^ (i + 1)
byte-more n i b small byte =
    let next : i + 1 ≡ suc i = omega arith in
    let power : 256 ^ (i + 1) ≡ 256 ^ i * 256 = ap (λ k. 256 ^ k) next ∙ pow-suc 256 i in
    omega (arith, power)

pub eight-bytes : (n i : ℕ) → n < 256 ^ i → i ≤ 8 → n < 2 ^ 64
eight-bytes n i small few = omega (arith, byte_power i, pow_mono {i = 8 * i} {j = 64} (omega arith))

pub number-more : (bytes : List ℕ) (n i : ℕ) → i < length bytes
    → (n * 256 + get_or bytes i 0) * 256 ^ length (drop (i + 1) bytes) + number (drop (i + 1) bytes)
    ≡ n * 256 ^ length (drop i bytes) + number (drop i bytes)
number-more bytes n i inside =
    let rest = drop (i + 1) bytes in
    let b = get_or bytes i 0 in
    let power = 256 ^ length rest in
    let one : n * 256 * power ≡ n * 256 ^ suc (length rest) =
    mul_assoc n 256 power ∙ ap (λ m. n * m) (mul_comm 256 power ∙ sym (pow-suc 256 (length rest))) in
    let parts : (n * 256 + b) * power ≡ n * 256 * power + b * power = add-mul (n * 256) b power in
    omega (arith, one, parts)
    ∙ ap (λ l. n * 256 ^ length l + number l) (sym (drop_more bytes i 0 inside))
