-- Bits of a list as a number, by the bytes that they are in.
use Rattle.std.proofs.Common.{◌≡◌, ℕ, zero, suc, ◌+◌, ◌*◌, ◌/◌, ◌%◌, ◌-◌, ◌^◌, ◌<◌, ◌≤◌, List, length, refl, sym, ap, subst, ◌∙◌, arith}
use Rattle.std.specs.Prelude.{slice_range}
use Rattle.std.proofs.Math.Nat.{div-div-eq-div-mul, mul-add-div_right, mul-add-mod_self_right, mod-eq_of_lt}
use Rattle.std.proofs.lemmas.Nat.{pow-add, pow_pos, div-mul-add}
use Rattle.etherparse.specs.Bytes.{IsBytes, number}
use Rattle.ether_base.proofs.SubLists.{number-part_below, number-part_join, length-part, part_all, part_of_front}
use Rattle.ether_fields.specs.Places.{bits_number}

-- ---- powers

pub bytes_as_bits : (k : ℕ) → 256 ^ k ≡ 2 ^ (8 * k)
bytes_as_bits zero = refl
bytes_as_bits (suc k) =
    let one_more : 256 ^ suc k ≡ 2 ^ 8 * 2 ^ (8 * k) = let e = bytes_as_bits k in omega arith in
    let bits : 8 + 8 * k ≡ 8 * suc k = omega arith in
    one_more ∙ sym (pow-add 2 8 (8 * k)) ∙ ap (λ (n : ℕ). 2 ^ n) bits

-- what is before the bits does not count
high_bits : (a w after before len : ℕ) → (a * 2 ^ (after + before + len) + w) / 2 ^ after % 2 ^ len
    ≡ w / 2 ^ after % 2 ^ len
high_bits a w after before len =
    let split = pow-add 2 (after + before) len in
    let parts = pow-add 2 after before in
    let product : a * 2 ^ (after + before + len)
    ≡ a * 2 ^ before * 2 ^ len * 2 ^ after = ap (λ (n : ℕ). a * n) (split ∙ ap (λ (n : ℕ). n * 2 ^ len) parts)
    ∙ grind arith in
    ap (λ (n : ℕ). (n + w) / 2 ^ after % 2 ^ len) product
    ∙ ap (λ (n : ℕ). n % 2 ^ len) (mul-add-div_right (pow_pos after) (a * 2 ^ before * 2 ^ len) w)
    ∙ mul-add-mod_self_right (a * 2 ^ before) (2 ^ len) (w / 2 ^ after)

-- nor is what is after them
low_bits : (n c rest after : ℕ) → c < 256 ^ rest → (n * 256 ^ rest + c) / 2 ^ (8 * rest + after) ≡ n / 2 ^ after
low_bits n c rest after lt =
    ap (λ (d : ℕ). (n * 256 ^ rest + c) / d)
    (pow-add 2 (8 * rest) after ∙ ap (λ (d : ℕ). d * 2 ^ after) (sym (bytes_as_bits rest)))
    ∙ sym (div-div-eq-div-mul (n * 256 ^ rest + c) (256 ^ rest) (2 ^ after))
    ∙ ap (λ (d : ℕ). d / 2 ^ after) (div-mul-add n (256 ^ rest) c lt)

-- ---- bits of a list

pub bits_within : (list : List ℕ) (at bit len count : ℕ) → IsBytes list → at + count ≤ length list
    → bit + len ≤ 8 * count
    → number (slice_range list at (at + count)) / 2 ^ (8 * count - (bit + len)) % 2 ^ len
    ≡ bits_number list (8 * at + bit) len
bits_within list at bit len count ok le fits =
    let n = length list in
    let rest = n - (at + count) in
    let after = 8 * count - (bit + len) in
    let a = number (slice_range list 0 at) in
    let w = number (slice_range list at (at + count)) in
    let c = number (slice_range list (at + count) n) in
    let outer = number-part_join list 0 (at + count) n (omega arith) le (omega arith) in
    let inner = number-part_join list 0 at (at + count) (omega arith) (omega arith) le in
    let below = number-part_below list (at + count) n ok (omega arith) in
    let whole : number list
    ≡ number (slice_range list 0 (at + count)) * 256 ^ rest + c = sym (ap number (part_all list n (omega arith)))
    ∙ outer in
    let bytes : at + count - at ≡ count = omega arith in
    let bits : 8 * count ≡ after + bit + len = omega arith in
    let front : number (slice_range list 0 (at + count)) ≡ a * 2 ^ (after + bit + len) + w =
    inner ∙ ap (λ (k : ℕ). a * 256 ^ k + w) bytes
    ∙ ap (λ (p : ℕ). a * p + w) (bytes_as_bits count ∙ ap (λ (k : ℕ). 2 ^ k) bits) in
    let place : 8 * n - (8 * at + bit + len) ≡ 8 * rest + after = omega arith in
    sym (
    (λ i. whole i / 2 ^ place i % 2 ^ len)
    ∙ ap (λ (m : ℕ). m % 2 ^ len) (low_bits (number (slice_range list 0 (at + count))) c rest after below)
    ∙ ap (λ (m : ℕ). m / 2 ^ after % 2 ^ len) front
    ∙ high_bits a w after bit len)

-- .. of a part
pub bits_part : (list : List ℕ) (at count first len : ℕ) → IsBytes list → at + count ≤ length list
    → first + len ≤ 8 * count
    → bits_number (slice_range list at (at + count)) first len ≡ bits_number list (8 * at + first) len
bits_part list at count first len ok le inside =
    let w = number (slice_range list at (at + count)) in
    let whole : length (slice_range list at (at + count)) ≡ count = length-part list at (at + count) le ∙ omega arith in
    ap (λ (k : ℕ). w / 2 ^ (8 * k - (first + len)) % 2 ^ len) whole
    ∙ bits_within list at first len count ok le inside

-- whole bytes
pub bytes_within : (list : List ℕ) (first at count : ℕ) → first ≡ 8 * at → IsBytes list → at + count ≤ length list
    → bits_number list first (8 * count) ≡ number (slice_range list at (at + count))
bytes_within list first at count e ok le =
    let below = number-part_below list at (at + count) ok le in
    let w = number (slice_range list at (at + count)) in
    let bytes : at + count - at ≡ count = omega arith in
    let none : 8 * count - (0 + 8 * count) ≡ 0 = omega arith in
    let place : first ≡ 8 * at + 0 = omega arith in
    let power : 256 ^ (at + count - at) ≡ 2 ^ (8 * count) = ap (λ (k : ℕ). 256 ^ k) bytes ∙ bytes_as_bits count in
    let small : w < 2 ^ (8 * count) = subst (λ (p : ℕ). w < p) power below in
    let whole : w / 2 ^ 0 ≡ w = omega arith in
    ap (λ (k : ℕ). bits_number list k (8 * count)) place
    ∙ sym (bits_within list at 0 (8 * count) count ok le (omega arith))
    ∙ ap (λ (k : ℕ). w / 2 ^ k % 2 ^ (8 * count)) none
    ∙ ap (λ (k : ℕ). k % 2 ^ (8 * count)) whole
    ∙ mod-eq_of_lt small

-- .. of a front
pub front_within : (list : List ℕ) (n first at count value : ℕ) → first ≡ 8 * at → IsBytes list → n ≤ length list
    → at + count ≤ n → number (slice_range (slice_range list 0 n) at (at + count)) ≡ value
    → bits_number list first (8 * count) ≡ value
front_within list n first at count value e ok le inside is =
    bytes_within list first at count e ok (omega arith)
    ∙ ap number (sym (part_of_front list n at (at + count) (omega arith) inside))
    ∙ is
