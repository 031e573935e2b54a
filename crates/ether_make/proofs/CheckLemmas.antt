-- A division by the generator, bit by bit.
use Rattle.std.proofs.Common.{◌≡◌, ℕ, zero, suc, ◌+◌, ◌-◌, ◌*◌, ◌/◌, ◌%◌, ◌^◌, ◌<◌, ◌≤◌, List, [], ◌∷◌, ◌++◌, length, map, Bool, true, false, not, replicate, nat_eq, if◌then◌else◌, refl, sym, ap, ap₂, subst, ◌∙◌, arith, length-append, w32}
use Rattle.std.proofs.Math.Nat.{pow-suc}
use Rattle.std.specs.Int.Bits.{bit_xor, xor_add_and}
use Rattle.std.proofs.lemmas.List.{length-map}
use Rattle.std.proofs.lemmas.Nat.{xor_shr}
use Rattle.std.specs.Int.{to_le_bytes}
use Rattle.ether_base.specs.Bytes.{bit}
use Rattle.ether_make.specs.Bits.{bits}
use Rattle.ether_make.specs.CheckSequences.{added, divided, generator, low_bits, plus, received, sent, check_sequence}
use Rattle.ether_make.specs.CheckSteps.{TakesIn}

-- ---- sums

added-nil : (p : List Bool) → added p [] ≡ p
added-nil [] = refl
added-nil (a ∷ p) = refl

plus-assoc : (a b c : Bool) → plus (plus a b) c ≡ plus a (plus b c)
plus-assoc true true true = refl
plus-assoc true true false = refl
plus-assoc true false true = refl
plus-assoc true false false = refl
plus-assoc false true true = refl
plus-assoc false true false = refl
plus-assoc false false true = refl
plus-assoc false false false = refl

plus-comm : (a b : Bool) → plus a b ≡ plus b a
plus-comm true true = refl
plus-comm true false = refl
plus-comm false true = refl
plus-comm false false = refl

plus-same : (b : Bool) → plus b b ≡ false
plus-same true = refl
plus-same false = refl

plus-other : (b : Bool) → plus (not b) b ≡ true
plus-other true = refl
plus-other false = refl

pub added-comm : (p q : List Bool) → added p q ≡ added q p
added-comm [] q = sym (added-nil q)
added-comm (a ∷ p) [] = refl
added-comm (a ∷ p) (b ∷ q) = ap (λ x. x ∷ added p q) (plus-comm a b) ∙ ap (λ l. plus b a ∷ l) (added-comm p q)

pub added-assoc : (p q r : List Bool) → added (added p q) r ≡ added p (added q r)
added-assoc [] q r = refl
added-assoc (a ∷ p) [] r = refl
added-assoc (a ∷ p) (b ∷ q) [] = refl
added-assoc (a ∷ p) (b ∷ q) (c ∷ r) =
    ap (λ x. x ∷ added (added p q) r) (plus-assoc a b c) ∙ ap (λ l. plus a (plus b c) ∷ l) (added-assoc p q r)

-- a zero after a list changes no sum with a longer one
added-zero : (p q : List Bool) → length p < length q → added (p ++ false ∷ []) q ≡ added p q
added-zero [] [] h = absurd (omega arith)
added-zero [] (true ∷ q) h = refl
added-zero [] (false ∷ q) h = refl
added-zero (a ∷ p) [] h = absurd (omega arith)
added-zero (a ∷ p) (b ∷ q) h = ap (λ l. plus a b ∷ l) (added-zero p q (omega (arith, h)))

-- ---- bits of numbers

pub low-zero : (n : ℕ) → low_bits zero n ≡ []
unfolding low_bits
low-zero n = refl

pub low-suc : (k n : ℕ) → low_bits (suc k) n ≡ nat_eq (n % 2) 1 ∷ low_bits k (n / 2)
unfolding low_bits
low-suc k n = refl

pub length-low_bits : (k n : ℕ) → length (low_bits k n) ≡ k
length-low_bits zero n = rw (low-zero n) refl
length-low_bits (suc k) n = rw (low-suc k n) (ap suc (length-low_bits k (n / 2)))

pub half-fits : (k n : ℕ) → n < 2 ^ suc k → n / 2 < 2 ^ k
half-fits k n h = let e : n < 2 ^ k * 2 = subst (λ (m : ℕ). n < m) (pow-suc 2 k) h in omega (arith, e)

low-none : low_bits 1 0 ≡ low_bits 0 0 ++ false ∷ []
unfolding low_bits
low-none = refl

-- the highest bit of a number that has fewer
low-last : (k n : ℕ) → n < 2 ^ k → low_bits (suc k) n ≡ low_bits k n ++ false ∷ []
low-last zero n h = let e : n ≡ 0 = omega (arith, h) in rw e low-none
low-last (suc k) n h =
    low-suc (suc k) n ∙ ap (λ l. nat_eq (n % 2) 1 ∷ l) (low-last k (n / 2) (half-fits k n h))
    ∙ ap (λ l. l ++ false ∷ []) (sym (low-suc k n))

-- the last bit of a sum
sum-bit : (x y : ℕ) → x < 2 → y < 2 → nat_eq ((x + y) % 2) 1 ≡ plus (nat_eq x 1) (nat_eq y 1)
sum-bit zero zero h k = refl
sum-bit zero (suc zero) h k = refl
sum-bit (suc zero) zero h k = refl
sum-bit (suc zero) (suc zero) h k = refl
sum-bit x (suc (suc y)) h k = absurd (omega (arith, k))
sum-bit (suc (suc x)) y h k = absurd (omega (arith, h))

pub xor-bit : (a b : ℕ) → nat_eq (bit_xor a b % 2) 1 ≡ plus (nat_eq (a % 2) 1) (nat_eq (b % 2) 1)
xor-bit a b =
    let e : bit_xor a b % 2 ≡ (a % 2 + b % 2) % 2 = omega (arith, xor_add_and a b) in
    ap (λ n. nat_eq n 1) e ∙ sum-bit (a % 2) (b % 2) (omega arith) (omega arith)

-- the bits of an exclusive or
pub low-xor : (k a b : ℕ) → low_bits k (bit_xor a b) ≡ added (low_bits k a) (low_bits k b)
low-xor zero a b = rw (low-zero (bit_xor a b), low-zero a, low-zero b) refl
low-xor (suc k) a b =
    rw (low-suc k (bit_xor a b), low-suc k a, low-suc k b, xor-bit a b, xor_shr a b 1)
    (ap (λ l. plus (nat_eq (a % 2) 1) (nat_eq (b % 2) 1) ∷ l) (low-xor k (a / 2) (b / 2)))

-- the bits of the generator, as a number whose least significant bit is that of the power 31
generator-bits : low_bits 32 0xEDB88320 ≡ generator
unfolding low_bits bits
generator-bits = refl

-- ---- a bit of a division

divided-one : (n : ℕ) (b : Bool) (p : List Bool)
    → divided (suc n) (b ∷ p) ≡ divided n (if b then added generator p else p)
unfolding divided
divided-one n true p = refl
divided-one n false p = refl

-- the sum of a register and of a bit with more after it
register-bit : (r : ℕ) (b : Bool) (rest : List Bool) → r < 2 ^ 32 → 32 ≤ length rest
    → added (low_bits 32 r) (b ∷ rest) ≡ plus (nat_eq (r % 2) 1) b ∷ added (low_bits 32 (r / 2)) rest
register-bit r b rest h enough =
    let last = low-last 31 (r / 2) (half-fits 31 r h) in
    let short : length (low_bits 31 (r / 2)) < length rest = omega (arith, length-low_bits 31 (r / 2), enough) in
    ap (λ l. added l (b ∷ rest)) (low-suc 31 r)
    ∙ ap (λ l. plus (nat_eq (r % 2) 1) b ∷ l)
    (sym (ap (λ l. added l rest) last ∙ added-zero (low_bits 31 (r / 2)) rest short))

pub bit-zero : (n r : ℕ) (b : Bool) (rest : List Bool) → r < 2 ^ 32 → 32 ≤ length rest → nat_eq (r % 2) 1 ≡ b
    → divided (suc n) (added (low_bits 32 r) (b ∷ rest)) ≡ divided n (added (low_bits 32 (r / 2)) rest)
bit-zero n r b rest h enough e =
    ap (divided (suc n)) (register-bit r b rest h enough)
    ∙ ap (λ x. divided (suc n) (plus x b ∷ added (low_bits 32 (r / 2)) rest)) e
    ∙ ap (λ x. divided (suc n) (x ∷ added (low_bits 32 (r / 2)) rest)) (plus-same b)
    ∙ divided-one n false _

pub bit-one : (n r : ℕ) (b : Bool) (rest : List Bool) → r < 2 ^ 32 → 32 ≤ length rest → nat_eq (r % 2) 1 ≡ not b
    → divided (suc n) (added (low_bits 32 r) (b ∷ rest))
    ≡ divided n (added (low_bits 32 (bit_xor (r / 2) 0xEDB88320)) rest)
bit-one n r b rest h enough e =
    ap (divided (suc n)) (register-bit r b rest h enough)
    ∙ ap (λ x. divided (suc n) (plus x b ∷ added (low_bits 32 (r / 2)) rest)) e
    ∙ ap (λ x. divided (suc n) (x ∷ added (low_bits 32 (r / 2)) rest)) (plus-other b)
    ∙ divided-one n true _
    ∙ ap (divided n) (sym (added-assoc generator (low_bits 32 (r / 2)) rest)
    ∙ ap (λ l. added l rest) (added-comm generator (low_bits 32 (r / 2))
    ∙ ap (added (low_bits 32 (r / 2))) (sym generator-bits) ∙ sym (low-xor 32 (r / 2) 0xEDB88320)))

-- the first 32 bits are complemented
ones : low_bits 32 0xFFFFFFFF ≡ replicate 32 true
unfolding low_bits
ones = refl

-- ---- the bytes of what is left

added-zeros : (k : ℕ) (p : List Bool) → length p ≡ k → added p (replicate k false) ≡ p
added-zeros zero p e = added-nil p
added-zeros (suc k) [] e = absurd (omega (arith, e))
added-zeros (suc k) (true ∷ p) e = ap (λ l. true ∷ l) (added-zeros k p (omega (arith, e)))
added-zeros (suc k) (false ∷ p) e = ap (λ l. false ∷ l) (added-zeros k p (omega (arith, e)))

not-bit : (x : ℕ) → x < 2 → not (nat_eq x 1) ≡ nat_eq (1 - x) 1
not-bit zero h = refl
not-bit (suc zero) h = refl
not-bit (suc (suc x)) h = absurd (omega (arith, h))

-- the bits of a complement
low-not : (k n : ℕ) → n < 2 ^ k → map not (low_bits k n) ≡ low_bits k (2 ^ k - 1 - n)
low-not zero n h = rw (low-zero n, low-zero (2 ^ 0 - 1 - n)) refl
low-not (suc k) n h =
    let p = pow-suc 2 k in
    let bit : 1 - n % 2 ≡ (2 ^ suc k - 1 - n) % 2 = omega (arith, p, h) in
    let more : 2 ^ k - 1 - n / 2 ≡ (2 ^ suc k - 1 - n) / 2 = omega (arith, p, h) in
    rw (low-suc k n, low-suc k (2 ^ suc k - 1 - n), sym bit, sym more)
    (ap (λ b. b ∷ map not (low_bits k (n / 2))) (not-bit (n % 2) (omega arith))
    ∙ ap (λ l. nat_eq (1 - n % 2) 1 ∷ l) (low-not k (n / 2) (half-fits k n h)))

bit-of : (x : ℕ) → x < 2 → bit (nat_eq x 1) ≡ x
bit-of zero h = refl
bit-of (suc zero) h = refl
bit-of (suc (suc x)) h = absurd (omega (arith, h))

odd-bit : (n : ℕ) → bit (nat_eq (n % 2) 1) ≡ n % 2
odd-bit n = bit-of (n % 2) (omega arith)

-- the first eight bits are a byte
received-eight : (n : ℕ) (rest : List Bool) → received (low_bits 8 n ++ rest) ≡ n % 256 ∷ received rest
unfolding low_bits
received-eight n rest =
    rw (
      odd-bit n,
      odd-bit (n / 2),
      odd-bit (n / 2 / 2),
      odd-bit (n / 2 / 2 / 2),
      odd-bit (n / 2 / 2 / 2 / 2),
      odd-bit (n / 2 / 2 / 2 / 2 / 2),
      odd-bit (n / 2 / 2 / 2 / 2 / 2 / 2),
      odd-bit (n / 2 / 2 / 2 / 2 / 2 / 2 / 2),
    )
    (ap (λ b. b ∷ received rest) (omega arith))

pub low-eight : (k n : ℕ)
    → low_bits (suc (suc (suc (suc (suc (suc (suc (suc k)))))))) n ≡ low_bits 8 n ++ low_bits k (n / 256)
unfolding low_bits
low-eight k n = let e : n / 256 ≡ n / 2 / 2 / 2 / 2 / 2 / 2 / 2 / 2 = omega arith in rw e refl

-- the four bytes of a number, the least significant one first
four : (n : ℕ) → received (low_bits 32 n) ≡ to_le_bytes w32 n
four n =
    let bytes = n / 256 / 256 in
    rw (
      low-eight 24 n,
      received-eight n,
      low-eight 16 (n / 256),
      received-eight (n / 256),
      low-eight 8 bytes,
      received-eight bytes,
      low-eight 0 (bytes / 256),
      received-eight (bytes / 256),
      low-zero (bytes / 256 / 256),
    )
    (ap (λ l. n % 256 ∷ n / 256 % 256 ∷ l) (ap₂ (λ a b. a ∷ b ∷ []) (omega arith) (omega arith)))

length-sent : (bytes : List ℕ) → length (sent bytes) ≡ 8 * length bytes
length-sent [] = refl
length-sent (b ∷ bytes) =
    omega (arith, length-append (low_bits 8 b) (sent bytes), length-low_bits 8 b, length-sent bytes)

pub length-added : (p q : List Bool) → length p ≤ length q → length (added p q) ≡ length q
length-added [] q h = refl
length-added (a ∷ p) [] h = absurd (omega (arith, h))
length-added (a ∷ p) (b ∷ q) h = ap suc (length-added p q (omega (arith, h)))

divided-zero : (p : List Bool) → divided zero p ≡ p
unfolding divided
divided-zero p = refl

-- the bytes of a complement
pub complement : (r : ℕ) → r < 2 ^ 32 → to_le_bytes w32 (2 ^ 32 - 1 - r) ≡ received (map not (low_bits 32 r))
complement r h = sym (ap received (low-not 32 r h) ∙ four (2 ^ 32 - 1 - r))

-- what is left after all bytes
pub check-done : (bytes : List ℕ) (r : ℕ) → TakesIn 0xFFFFFFFF bytes r
    → received (map not (low_bits 32 r)) ≡ check_sequence bytes
check-done bytes r taken =
    let all = added (replicate 32 true) (sent bytes ++ replicate 32 false) in
    let count : 8 * length bytes + 0 ≡ length all - 32 = omega (
      arith,
      length-added (replicate 32 true) (sent bytes ++ replicate 32 false)
          (omega (arith, length-append (sent bytes) (replicate 32 false))),
      length-append (sent bytes) (replicate 32 false),
      length-sent bytes,
    ) in
    let left : low_bits 32 r ≡ divided (length all - 32) all =
    sym (ap₂ (λ n o. divided n (added o (sent bytes ++ replicate 32 false))) (sym count) (sym ones)
    ∙ taken 0 (replicate 32 false) (omega arith)
    ∙ divided-zero _ ∙ added-zeros 32 (low_bits 32 r) (length-low_bits 32 r)) in
    ap (λ l. received (map not l)) left

length-received : (bits : List Bool) → length (received bits) ≤ length bits
length-received (a ∷ b ∷ c ∷ d ∷ e ∷ f ∷ g ∷ h ∷ rest) = omega (arith, length-received rest)
length-received [] = omega arith
length-received (a ∷ []) = omega arith
length-received (a ∷ b ∷ []) = omega arith
length-received (a ∷ b ∷ c ∷ []) = omega arith
length-received (a ∷ b ∷ c ∷ d ∷ []) = omega arith
length-received (a ∷ b ∷ c ∷ d ∷ e ∷ []) = omega arith
length-received (a ∷ b ∷ c ∷ d ∷ e ∷ f ∷ []) = omega arith
length-received (a ∷ b ∷ c ∷ d ∷ e ∷ f ∷ g ∷ []) = omega arith

pub length-generator : length generator ≡ 32
unfolding bits
length-generator = refl

pub length-divided : (n : ℕ) (p : List Bool) → n + 32 ≤ length p → length (divided n p) ≡ length p - n
unfolding divided
length-divided zero p h = omega arith
length-divided (suc n) [] h = absurd (omega (arith, h))
length-divided (suc n) (false ∷ p) h = omega (arith, h, length-divided n p (omega (arith, h)))
length-divided (suc n) (true ∷ p) h =
    let same : length (added generator p) ≡ length p = length-added generator p (omega (arith, h, length-generator)) in
    omega (arith, h, same, length-divided n (added generator p) (omega (arith, h, same)))

-- a bound that is easy to see; the sequence has four bytes
pub few-bytes : (bytes : List ℕ) → length (check_sequence bytes) ≤ 32
few-bytes bytes =
    let p = added (replicate 32 true) (sent bytes ++ replicate 32 false) in
    let enough : 32 ≤ length p = omega (
      arith,
      length-append (sent bytes) (replicate 32 false),
      length-added (replicate 32 true) (sent bytes ++ replicate 32 false)
          (omega (arith, length-append (sent bytes) (replicate 32 false))),
    ) in
    let left = divided (length p - 32) p in
    omega (
      arith,
      enough,
      length-received (map not left),
      length-map left not,
      length-divided (length p - 32) p (omega (arith, enough)),
    )
