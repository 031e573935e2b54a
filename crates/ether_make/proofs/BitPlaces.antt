-- Bits that are replaced.
use Rattle.std.proofs.Common.{◌≡◌, ℕ, zero, suc, ◌+◌, ◌-◌, ◌*◌, ◌/◌, ◌%◌, ◌^◌, ◌<◌, ◌≤◌, List, [], ◌∷◌, ◌++◌, length, take, drop, Bool, refl, sym, ap, ap₂, ◌∙◌, arith, append_assoc, pow-add, get_or, set, length-append, length-take-le, take-append-drop, take-take}
use Rattle.std.proofs.lemmas.List.{take-append-le, drop-append-le, set_split, drop_more}
use Rattle.std.proofs.Math.Seq.{take-append-add, drop-append-add, drop-append_seam, take-append_seam}
use Rattle.std.proofs.lemmas.Nat.{div-add-mod', mul-add-lt, pow_pos}
use Rattle.std.proofs.Math.Nat.{div-lt_iff_lt-mul, div-mul-le_self, mod-lt, mod-eq_of_lt, mul_comm, one-mul}
use Rattle.std.proofs.Math.Pow.{pow_mono}
use Rattle.ether_make.specs.Bits.{bits, bits_of, with_bits}
use Rattle.ether_make.proofs.BitBytes.{bits-suc, bits-zero, bits-join, bits-mod}

pub bits-length : (k n : ℕ) → length (bits k n) ≡ k
bits-length zero n = ap length (bits-zero n)
bits-length (suc k) n = ap length (bits-suc k n) ∙ ap suc (bits-length k n)

-- the first bits of a number, and the others
pub bits-split : (a b n : ℕ) → bits (a + b) n ≡ bits a (n / 2 ^ b) ++ bits b n
bits-split a b n =
    ap (bits (a + b)) (sym (div-add-mod' n (2 ^ b)))
    ∙ bits-join a b (n / 2 ^ b) (n % 2 ^ b) (mod-lt n (pow_pos b))
    ∙ ap (λ l. bits a (n / 2 ^ b) ++ l) (bits-mod b n)

-- ---- what precedes and follows

pub with-after : (front xs : List Bool) (at len n : ℕ)
    → with_bits (length front + at) len n (front ++ xs) ≡ front ++ with_bits at len n xs
with-after front xs at len n =
    let e : length front + at + len ≡ length front + (at + len) = omega arith in
    ap₂ (λ (x y : List Bool). x ++ (bits len n ++ y)) (take-append-add front xs at)
    (ap (λ k. drop k (front ++ xs)) e ∙ drop-append-add front xs (at + len))
    ∙ append_assoc front (take at xs) (bits len n ++ drop (at + len) xs)

pub with-before : (xs back : List Bool) (at len n : ℕ) → at + len ≤ length xs
    → with_bits at len n (xs ++ back) ≡ with_bits at len n xs ++ back
with-before xs back at len n h =
    ap₂ (λ (x y : List Bool). x ++ (bits len n ++ y)) (take-append-le at xs back (omega arith))
    (drop-append-le (at + len) xs back h)
    ∙ ap (λ l. take at xs ++ l) (sym (append_assoc (bits len n) (drop (at + len) xs) back))
    ∙ sym (append_assoc (take at xs) (bits len n ++ drop (at + len) xs) back)

pub with-none : (at n : ℕ) (xs : List Bool) → with_bits at 0 n xs ≡ xs
with-none at n xs =
    let e : at + 0 ≡ at = omega arith in
    ap₂ (λ (b d : List Bool). take at xs ++ (b ++ d)) (bits-zero n) (ap (λ k. drop k xs) e)
    ∙ take-append-drop at xs

pub with-split : (at a b n : ℕ) (xs : List Bool) → at + (a + b) ≤ length xs
    → with_bits at a (n / 2 ^ b) (with_bits (at + a) b n xs) ≡ with_bits at (a + b) n xs
with-split at a b n xs h =
    let front = take (at + a) xs in
    let after = bits b n ++ drop (at + a + b) xs in
    let len : length front ≡ at + a = length-take-le (at + a) xs (omega arith) in
    let e : at + a + b ≡ at + (a + b) = omega arith in
    ap₂ (λ (x y : List Bool). x ++ (bits a (n / 2 ^ b) ++ y))
    (take-append-le at front after (omega arith) ∙ take-take at (at + a) xs (omega arith))
    (ap (λ k. drop k (front ++ after)) (sym len) ∙ drop-append_seam front after)
    ∙ ap (λ l. take at xs ++ l) (sym (append_assoc (bits a (n / 2 ^ b)) (bits b n) (drop (at + a + b) xs))
    ∙ ap₂ (λ (x y : List Bool). x ++ y) (sym (bits-split a b n)) (ap (λ k. drop k xs) e))

-- ---- a bit more of bytes

pub bits_of-length : (bytes : List ℕ) → length (bits_of bytes) ≡ 8 * length bytes
bits_of-length [] = refl
bits_of-length (b ∷ bs) = length-append (bits 8 b) (bits_of bs)
    ∙ ap₂ (λ x y. x + y) (bits-length 8 b) (bits_of-length bs) ∙ omega arith

pub bits_of-append : (xs ys : List ℕ) → bits_of (xs ++ ys) ≡ bits_of xs ++ bits_of ys
bits_of-append [] ys = refl
bits_of-append (x ∷ xs) ys =
    ap (λ l. bits 8 x ++ l) (bits_of-append xs ys) ∙ sym (append_assoc (bits 8 x) (bits_of xs) (bits_of ys))

-- a byte among others
pub with-byte : (bytes : List ℕ) (place at len n b : ℕ) → place < length bytes → at + len ≤ 8
    → bits 8 b ≡ with_bits at len n (bits 8 (get_or bytes place 0))
    → bits_of (set bytes place b) ≡ with_bits (8 * place + at) len n (bits_of bytes)
with-byte bytes place at len n b inside small same =
    let front = take place bytes in
    let back = drop (place + 1) bytes in
    let next : suc place ≡ place + 1 = omega arith in
    let old = bits 8 (get_or bytes place 0) in
    let count : length (bits_of front) ≡ 8 * place =
    bits_of-length front ∙ ap (λ k. 8 * k) (length-take-le place bytes (omega arith)) in
    let room : at + len ≤ length old = rw (bits-length 8 (get_or bytes place 0)) small in
    let whole : bits_of bytes ≡ bits_of front ++ (old ++ bits_of back) =
    ap bits_of (sym (take-append-drop place bytes) ∙ ap (λ l. front ++ l) (drop_more bytes place 0 inside))
    ∙ bits_of-append front (get_or bytes place 0 ∷ back) in
    ap bits_of (set_split bytes place b inside ∙ ap (λ k. front ++ b ∷ drop k bytes) next)
    ∙ bits_of-append front (b ∷ back)
    ∙ ap (λ l. bits_of front ++ (l ++ bits_of back)) same
    ∙ ap (λ l. bits_of front ++ l) (sym (with-before old (bits_of back) at len n room))
    ∙ sym (with-after (bits_of front) (old ++ bits_of back) at len n)
    ∙ ap₂ (λ k l. with_bits (k + at) len n l) count (sym whole)

-- ---- a byte

pub byte-power : (k : ℕ) → k ≤ 8 → 2 ^ k ≤ 256
byte-power k h = pow_mono {i = k} {j = 8} h

-- two parts of a byte
low-small : (c e n byte : ℕ) → n % 2 ^ c * 2 ^ e + byte % 2 ^ e < 2 ^ (c + e)
low-small c e n byte =
    rw (pow-add 2 c e, mul_comm (2 ^ c) (2 ^ e))
    (mul-add-lt (n % 2 ^ c) (2 ^ e) (byte % 2 ^ e) (2 ^ c) (mod-lt n (pow_pos c)) (mod-lt byte (pow_pos e)))

three-parts : (a c e n byte : ℕ)
    → bits (a + (c + e)) (byte / 2 ^ (c + e) * 2 ^ (c + e) + (n % 2 ^ c * 2 ^ e + byte % 2 ^ e))
    ≡ with_bits a c n (bits (a + (c + e)) byte)
three-parts a c e n byte =
    let front = bits a (byte / 2 ^ (c + e)) in
    let low = bits (c + e) byte in
    let len : length front ≡ a = bits-length a (byte / 2 ^ (c + e)) in
    let middle = bits c (byte / 2 ^ e) in
    bits-join a (c + e) (byte / 2 ^ (c + e)) (n % 2 ^ c * 2 ^ e + byte % 2 ^ e) (low-small c e n byte)
    ∙ ap (λ l. front ++ l) (bits-join c e (n % 2 ^ c) (byte % 2 ^ e) (mod-lt byte (pow_pos e))
    ∙ ap₂ (λ (x y : List Bool). x ++ y) (bits-mod c n) (bits-mod e byte))
    ∙ ap₂ (λ (x y : List Bool). x ++ (bits c n ++ y))
    (sym (take-append_seam front low) ∙ ap (λ k. take k (front ++ low)) len)
    (sym (drop-append_seam middle (bits e byte)) ∙ ap (λ k. drop k (middle
    ++ bits e byte)) (bits-length c (byte / 2 ^ e))
    ∙ ap (λ l. drop c l) (sym (bits-split c e byte))
    ∙ sym (drop-append-add front low c) ∙ ap (λ k. drop (k + c) (front ++ low)) len)
    ∙ ap (with_bits a c n) (sym (bits-split a (c + e) byte))

pub byte-parts : (byte at len n : ℕ) → byte < 256 → at + len ≤ 8
    → bits 8 (byte / 2 ^ (8 - at) * 2 ^ (8 - at) + n % 2 ^ len * 2 ^ (8 - at - len) + byte % 2 ^ (8 - at - len))
    ≡ with_bits at len n (bits 8 byte)
byte-parts byte at len n fits h =
    let e = 8 - at - len in
    let high : len + e ≡ 8 - at = omega arith in
    let all : at + (len + e) ≡ 8 = omega arith in
    let moved : byte / 2 ^ (8 - at) * 2 ^ (8 - at) + (n % 2 ^ len * 2 ^ e + byte % 2 ^ e)
    ≡ byte / 2 ^ (8 - at) * 2 ^ (8 - at) + n % 2 ^ len * 2 ^ e + byte % 2 ^ e = omega arith in
    ap (bits 8) (sym moved)
    ∙ sym (ap₂ (λ k j. bits k (byte / 2 ^ j * 2 ^ j + (n % 2 ^ len * 2 ^ e + byte % 2 ^ e))) all high)
    ∙ three-parts at len e n byte
    ∙ ap (λ k. with_bits at len n (bits k byte)) all

-- .. is a byte
pub byte-small : (byte at len n : ℕ) → byte < 256 → at + len ≤ 8
    → byte / 2 ^ (8 - at) * 2 ^ (8 - at) + n % 2 ^ len * 2 ^ (8 - at - len) + byte % 2 ^ (8 - at - len) < 256
byte-small byte at len n fits h =
    let e = 8 - at - len in
    let power : 2 ^ (len + e) ≡ 2 ^ (8 - at) = ap (λ k. 2 ^ k) (omega arith) in
    let all : 8 - at + at ≡ 8 = omega arith in
    let low : n % 2 ^ len * 2 ^ e + byte % 2 ^ e < 2 ^ (8 - at) =
    omega (arith, low-small len e n byte, power) in
    let top : 2 ^ (8 - at) * 2 ^ at ≡ 256 = sym (pow-add 2 (8 - at) at) ∙ ap (λ k. 2 ^ k) all in
    let less : byte / 2 ^ (8 - at) < 2 ^ at = (div-lt_iff_lt-mul (pow_pos (8 - at))).1 (omega arith) in
    omega (
      arith,
      top,
      mul-add-lt (byte / 2 ^ (8 - at)) (2 ^ (8 - at)) (n % 2 ^ len * 2 ^ e + byte % 2 ^ e)
          (2 ^ at) less low,
    )

-- what is computed in 64 bits is what is meant
pub byte-word : (byte at len n : ℕ) → byte < 256 → at + len ≤ 8
    → byte / 2 ^ (8 - at) * 2 ^ (8 - at) % 18446744073709551616
    + n % (1 * 2 ^ len % 18446744073709551616) * 2 ^ (8 - at - len) % 18446744073709551616
    + byte % (1 * 2 ^ (8 - at - len) % 18446744073709551616)
    ≡ byte / 2 ^ (8 - at) * 2 ^ (8 - at) + n % 2 ^ len * 2 ^ (8 - at - len) + byte % 2 ^ (8 - at - len)
byte-word byte at len n fits h =
    let e = 8 - at - len in
    let power : (k : ℕ) → k ≤ 8 → 1 * 2 ^ k % 18446744073709551616 ≡ 2 ^ k =
    λ k small. ap (λ m. m % 18446744073709551616) (one-mul (2 ^ k))
    ∙ mod-eq_of_lt (omega (arith, byte-power k small)) in
    let first : byte / 2 ^ (8 - at) * 2 ^ (8 - at) % 18446744073709551616 ≡ byte / 2 ^ (8 - at) * 2 ^ (8 - at) =
    mod-eq_of_lt (omega (arith, div-mul-le_self byte (2 ^ (8 - at)))) in
    let second : n % 2 ^ len * 2 ^ e % 18446744073709551616 ≡ n % 2 ^ len * 2 ^ e =
    mod-eq_of_lt (omega (arith, byte-small byte at len n fits h)) in
    rw (power len (omega arith), power e (omega arith), first, second) refl
