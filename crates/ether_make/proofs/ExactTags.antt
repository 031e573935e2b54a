-- The bytes of a SecTag with its reserved bits.
use Rattle.std.proofs.Common.{◌≡◌, ℕ, ◌+◌, ◌*◌, ◌/◌, ◌%◌, ◌<◌, ◌≤◌, List, [], ◌∷◌, length, get_or, set, drop, sym, ap, arith}
use Rattle.etherparse.specs.Bytes.{IsBytes, spelled}
use Rattle.etherparse.specs.Macsec.{SecTagValue, FitsSecTag, sec_tag_front_number, sec_tag_front_of, sec_tag_bytes}
use Rattle.ether_make.proofs.SecTagBack.{reserved_tag_bytes}

pub exact_tag : (bytes : List ℕ) (t : SecTagValue) (r : ℕ) → FitsSecTag t → IsBytes bytes → 2 ≤ length bytes
    → set bytes 1 (get_or bytes 1 0 % 64) ≡ sec_tag_bytes t → r ≡ get_or bytes 1 0 / 64
    → reserved_tag_bytes r t ≡ bytes
unfolding spelled
exact_tag [] t r fits ok le e is = absurd (omega arith)
exact_tag (a ∷ []) t r fits ok le e is = absurd (omega arith)
exact_tag (a ∷ b ∷ rest) t r fits ok le e is =
    let f = fits.front in
    let n = sec_tag_front_number (sec_tag_front_of 0 0 t) in
    let m = sec_tag_front_number (sec_tag_front_of 0 r t) in
    let high : a ≡ n / 256 % 256 = ap (λ l. get_or l 0 0) e in
    let low : b % 64 ≡ n / 1 % 256 = ap (λ l. get_or l 1 0) e in
    let later = sym (ap (λ l. drop 2 l) e) in
    let b_small : b < 256 = ok 1 in
    let sum : m ≡ n + r * 64 = omega arith in
    let n_low : n % 64 ≡ t.short_len = omega (arith, f.short_len) in
    let n_zero : n / 64 % 4 ≡ 0 = omega (arith, f.short_len) in
    let x : m / 256 % 256 ≡ a = omega (arith, high, low, sum, is, b_small, n_zero) in
    let y : m / 1 % 256 ≡ b = omega (arith, low, sum, is, b_small, n_zero) in
    λ i. x i ∷ y i ∷ later i
