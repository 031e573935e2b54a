-- A division by the generator, byte by byte.
use Rattle.std.proofs.Common.{◌≡◌, ℕ, zero, suc, ◌+◌, ◌*◌, ◌/◌, ◌%◌, ◌^◌, ◌<◌, ◌≤◌, List, [], ◌∷◌, ◌++◌, length, Bool, true, false, replicate, nat_eq, slice_index_or, refl, sym, ap, ap₂, subst, ◌∙◌, arith, append_assoc, length-append, append-nil, add-one, drop, drop-cons, get_or, take, take_all, ◌-◌}
use Rattle.std.proofs.lemmas.Grind.{flat_map-append}
use Rattle.std.specs.Int.Bits.{bit_xor}
use lib.Bits.{block_half, block_odd, shifted_even, shifted_half, xor_assoc, xor_comm, xor_lt, xor_self, xor_shifted, xor_shr}
use Rattle.ether_make.specs.CheckSequences.{added, divided, low_bits, plus, sent}
use Rattle.ether_make.specs.CheckSteps.{TakesIn}
use Rattle.ether_make.proofs.CheckLemmas.{added-assoc, bit-one, bit-zero, half-fits, low-eight, low-suc, low-xor, low-zero, xor-bit}
use Rattle.ether_make.specs.declared.check_tables.TheConstants.{AFTER_STEPS}

-- ---- steps that take no bits

-- a step: the bit that is taken away, and the others
abbrev step : Bool → ℕ → ℕ
step false half = half
step true half = bit_xor half 0xEDB88320

unfoldable steps : (k r : ℕ) → ℕ
steps zero r = r
steps (suc k) r = steps k (step (nat_eq (r % 2) 1) (r / 2))

steps-zero : (r : ℕ) → steps zero r ≡ r
unfolding steps
steps-zero r = refl

steps-suc : (k r : ℕ) → steps (suc k) r ≡ steps k (step (nat_eq (r % 2) 1) (r / 2))
unfolding steps
steps-suc k r = refl

step-fits : (b : Bool) (r : ℕ) → r < 2 ^ 32 → step b (r / 2) < 2 ^ 32
step-fits false r h = omega (arith, h)
step-fits true r h = xor_lt 32 (r / 2) 0xEDB88320 (omega (arith, h)) (omega arith)

-- a zero is taken
zero-taken : (n r : ℕ) (rest : List Bool) (b : Bool) → nat_eq (r % 2) 1 ≡ b → r < 2 ^ 32 → 32 ≤ length rest
    → divided (suc n) (added (low_bits 32 r) (false ∷ rest)) ≡ divided n (added (low_bits 32 (step b (r / 2))) rest)
zero-taken n r rest false e h enough = bit-zero n r false rest h enough e
zero-taken n r rest true e h enough = bit-one n r false rest h enough e

zeros-taken : (k n r : ℕ) (rest : List Bool) → r < 2 ^ 32 → 32 ≤ length rest
    → divided (k + n) (added (low_bits 32 r) (replicate k false ++ rest))
    ≡ divided n (added (low_bits 32 (steps k r)) rest)
zeros-taken zero n r rest h enough =
    let e : zero + n ≡ n = omega arith in
    rw e (ap (λ x. divided n (added (low_bits 32 x) rest)) (sym (steps-zero r)))
zeros-taken (suc k) n r rest h enough =
    let e : suc k + n ≡ suc (k + n) = omega arith in
    let b = nat_eq (r % 2) 1 in
    rw e
    (zero-taken (k + n) r (replicate k false ++ rest) b refl h
    (omega (arith, enough, length-append (replicate k false) rest))
    ∙ zeros-taken k n (step b (r / 2)) rest (step-fits b r h) enough
    ∙ ap (λ x. divided n (added (low_bits 32 x) rest)) (sym (steps-suc k r)))

-- ---- steps of a sum, and of bits in front of zeros

step-sum : (p q : Bool) (a b : ℕ) → step (plus p q) (bit_xor a b) ≡ bit_xor (step p a) (step q b)
step-sum false false a b = refl
step-sum false true a b = xor_assoc a b 0xEDB88320
step-sum true false a b =
    xor_assoc a b 0xEDB88320 ∙ ap (bit_xor a) (xor_comm b 0xEDB88320) ∙ sym (xor_assoc a 0xEDB88320 b)
step-sum true true a b =
    sym (xor_assoc a 0xEDB88320 (bit_xor b 0xEDB88320)
    ∙ ap (λ x. bit_xor a (bit_xor 0xEDB88320 x)) (xor_comm b 0xEDB88320)
    ∙ ap (bit_xor a) (sym (xor_assoc 0xEDB88320 0xEDB88320 b) ∙ ap (λ x. bit_xor x b) (xor_self 0xEDB88320)))

steps-sum : (k a b : ℕ) → steps k (bit_xor a b) ≡ bit_xor (steps k a) (steps k b)
steps-sum zero a b = steps-zero (bit_xor a b) ∙ ap₂ bit_xor (sym (steps-zero a)) (sym (steps-zero b))
steps-sum (suc k) a b =
    steps-suc k (bit_xor a b)
    ∙ ap (steps k)
    (ap₂ step (xor-bit a b) (xor_shr a b 1) ∙ step-sum (nat_eq (a % 2) 1) (nat_eq (b % 2) 1) (a / 2) (b / 2))
    ∙ steps-sum k (step (nat_eq (a % 2) 1) (a / 2)) (step (nat_eq (b % 2) 1) (b / 2))
    ∙ ap₂ bit_xor (sym (steps-suc k a)) (sym (steps-suc k b))

steps-shifted : (k a : ℕ) → steps k (a * 2 ^ k) ≡ a
steps-shifted zero a = steps-zero (a * 2 ^ 0) ∙ omega arith
steps-shifted (suc k) a =
    steps-suc k (a * 2 ^ suc k)
    ∙ ap (steps k) (ap₂ (λ b n. step (nat_eq b 1) n) (shifted_even a k) (shifted_half a k))
    ∙ steps-shifted k a

steps-more : (j k r : ℕ) → steps (j + k) r ≡ steps k (steps j r)
steps-more zero k r =
    let e : zero + k ≡ k = omega arith in rw e (ap (steps k) (sym (steps-zero r)))
steps-more (suc j) k r =
    let e : suc j + k ≡ suc (j + k) = omega arith in
    rw e
    (steps-suc (j + k) r ∙ steps-more j k (step (nat_eq (r % 2) 1) (r / 2)) ∙ ap (steps k) (sym (steps-suc j r)))

-- steps for the last byte of a register, and for the others
parts : (r : ℕ) → r ≡ bit_xor (r / 256 * 2 ^ 8) (r % 256)
parts r =
    let e : r ≡ r / 256 * 2 ^ 8 + r % 256 = omega arith in
    e ∙ sym (xor_shifted (r / 256) 8 (r % 256) (omega arith))

steps-parts : (k r : ℕ) → steps (8 + k) r ≡ bit_xor (steps (8 + k) (r % 256)) (steps k (r / 256))
steps-parts k r =
    ap (steps (8 + k)) (parts r ∙ xor_comm (r / 256 * 2 ^ 8) (r % 256))
    ∙ steps-sum (8 + k) (r % 256) (r / 256 * 2 ^ 8)
    ∙ ap (bit_xor (steps (8 + k) (r % 256)))
    (steps-more 8 k (r / 256 * 2 ^ 8) ∙ ap (steps k) (steps-shifted 8 (r / 256)))

-- ---- the tables

abbrev after_8 : List ℕ
after_8 = slice_index_or AFTER_STEPS 0 []

abbrev after_16 : List ℕ
after_16 = slice_index_or AFTER_STEPS 1 []

abbrev after_24 : List ℕ
after_24 = slice_index_or AFTER_STEPS 2 []

abbrev after_32 : List ℕ
after_32 = slice_index_or AFTER_STEPS 3 []

unfoldable steps-from : (k r n : ℕ) → List ℕ
steps-from k r zero = []
steps-from k r (suc n) = steps k r ∷ steps-from k (suc r) n

at-from : (k r n i : ℕ) → i < n → slice_index_or (steps-from k r n) i 0 ≡ steps k (r + i)
unfolding steps-from
at-from k r zero i h = absurd (omega arith)
at-from k r (suc n) zero h = let e : r ≡ r + 0 = omega arith in ap (steps k) e
at-from k r (suc n) (suc i) h =
    let e : suc r + i ≡ r + suc i = omega arith in at-from k (suc r) n i (omega arith) ∙ ap (steps k) e

is-8 : after_8 ≡ steps-from 8 0 256
unfolding steps-from steps
is-8 = refl

is-16 : after_16 ≡ steps-from 16 0 256
unfolding steps-from steps
is-16 = refl

is-24 : after_24 ≡ steps-from 24 0 256
unfolding steps-from steps
is-24 = refl

is-32 : after_32 ≡ steps-from 32 0 256
unfolding steps-from steps
is-32 = refl

at-table : (k : ℕ) (table : List ℕ) → table ≡ steps-from k 0 256 → (i : ℕ) → i < 256
    → slice_index_or table i 0 ≡ steps k i
at-table k table is i h =
    let e : 0 + i ≡ i = omega arith in
    ap (λ (l : List ℕ). slice_index_or l i 0) is ∙ at-from k 0 256 i h ∙ ap (steps k) e

-- ---- bytes are taken

plus-zero : (b : Bool) → plus b false ≡ b
plus-zero false = refl
plus-zero true = refl

low-none : (k : ℕ) (rest : List Bool) → k ≤ length rest → added (low_bits k 0) rest ≡ rest
low-none zero rest h = ap (λ l. added l rest) (low-zero 0)
low-none (suc k) [] h = absurd (omega (arith, h))
low-none (suc k) (b ∷ rest) h =
    ap (λ l. added l (b ∷ rest)) (low-suc k 0) ∙ ap (λ l. b ∷ l) (low-none k rest (omega (arith, h)))

-- bits before others are a number that is added to zeros
low-before : (k j w : ℕ) (rest : List Bool) → w < 2 ^ k → j ≤ length rest
    → low_bits k w ++ rest ≡ added (low_bits (k + j) w) (replicate k false ++ rest)
low-before zero j w rest h enough =
    let e : w ≡ 0 = omega (arith, h) in
    let s : zero + j ≡ j = omega arith in
    rw (e, s, low-zero 0) (sym (low-none j rest enough))
low-before (suc k) j w rest h enough =
    let s : suc k + j ≡ suc (k + j) = omega arith in
    let half : w / 2 < 2 ^ k = half-fits k w h in
    rw (s, low-suc k w, low-suc (k + j) w)
    (ap₂ (λ b l. b ∷ l) (sym (plus-zero (nat_eq (w % 2) 1))) (low-before k j (w / 2) rest half enough))

-- a division takes the bits of a number
number-taken : (k j r w n : ℕ) (rest : List Bool) → k + j ≡ 32 → r < 2 ^ 32 → w < 2 ^ 32 → w < 2 ^ k → 32 ≤ length rest
    → divided (k + n) (added (low_bits 32 r) (low_bits k w ++ rest))
    ≡ divided n (added (low_bits 32 (steps k (bit_xor r w))) rest)
number-taken k j r w n rest s h fits few enough =
    ap (λ l. divided (k + n) (added (low_bits 32 r) l))
    (low-before k j w rest few (omega (arith, s, enough))
    ∙ ap (λ m. added (low_bits m w) (replicate k false ++ rest)) s)
    ∙ ap (divided (k + n))
    (sym (added-assoc (low_bits 32 r) (low_bits 32 w) (replicate k false ++ rest))
    ∙ ap (λ l. added l (replicate k false ++ rest)) (sym (low-xor 32 r w)))
    ∙ zeros-taken k n (bit_xor r w) rest (xor_lt 32 r w h fits) enough

-- what is left of a register after the steps of a byte, as the code finds it
pub byte-taken : (r b : ℕ) → r < 2 ^ 32 → b < 256
    → TakesIn r (b ∷ []) (bit_xor (slice_index_or after_8 (bit_xor r b % 256) 0) (bit_xor r b / 256))
byte-taken r b h few n rest enough =
    ap (λ l. divided (8 + n) (added (low_bits 32 r) (l ++ rest))) (append-nil (low_bits 8 b))
    ∙ number-taken 8 24 r b n rest refl h (omega (arith, few)) (omega (arith, few)) enough
    ∙ ap (λ x. divided n (added (low_bits 32 x) rest))
    (steps-parts 0 (bit_xor r b)
    ∙ ap₂ bit_xor (sym (at-table 8 after_8 is-8 (bit_xor r b % 256) (omega arith))) (steps-zero (bit_xor r b / 256)))

low-mod : (k m n : ℕ) → low_bits k (m * 2 ^ k + n) ≡ low_bits k n
low-mod zero m n = low-zero (m * 2 ^ 0 + n) ∙ sym (low-zero n)
low-mod (suc k) m n =
    low-suc k (m * 2 ^ suc k + n)
    ∙ ap₂ (λ b l. nat_eq b 1 ∷ l) (block_odd m k n) (ap (low_bits k) (block_half m k n) ∙ low-mod k m (n / 2))
    ∙ sym (low-suc k n)

low-join : (k a b : ℕ) → a < 256
    → low_bits 8 a ++ low_bits k b ≡ low_bits (suc (suc (suc (suc (suc (suc (suc (suc k)))))))) (b * 2 ^ 8 + a)
low-join k a b few =
    sym (low-eight k (b * 2 ^ 8 + a) ∙ ap₂ (λ l m. l ++ m) (low-mod 8 b a) (ap (low_bits k) (omega (arith, few))))

-- the bits of four bytes
low-four : (a b c d : ℕ) → a < 256 → b < 256 → c < 256
    → sent (a ∷ b ∷ c ∷ d ∷ []) ≡ low_bits 32 (((d * 2 ^ 8 + c) * 2 ^ 8 + b) * 2 ^ 8 + a)
low-four a b c d ha hb hc =
    ap (λ l. low_bits 8 a ++ (low_bits 8 b ++ (low_bits 8 c ++ l))) (append-nil (low_bits 8 d))
    ∙ ap (λ l. low_bits 8 a ++ (low_bits 8 b ++ l)) (low-join 8 c d hc)
    ∙ ap (λ l. low_bits 8 a ++ l) (low-join 16 b (d * 2 ^ 8 + c) hb)
    ∙ low-join 24 a ((d * 2 ^ 8 + c) * 2 ^ 8 + b) ha

steps-four : (s : ℕ) → s < 2 ^ 32
    → steps 32 s
    ≡ bit_xor
    (bit_xor
    (bit_xor (slice_index_or after_32 (s % 256) 0) (slice_index_or after_24 (s / 256 % 256) 0))
    (slice_index_or after_16 (s / 65536 % 256) 0))
    (slice_index_or after_8 (s / 16777216) 0)
steps-four s h =
    let a = at-table 32 after_32 is-32 (s % 256) (omega arith) in
    let b = at-table 24 after_24 is-24 (s / 256 % 256) (omega arith) in
    let c = at-table 16 after_16 is-16 (s / 65536 % 256) (omega arith) in
    let d = at-table 8 after_8 is-8 (s / 16777216) (omega (arith, h)) in
    let third : s / 256 / 256 ≡ s / 65536 = omega arith in
    let last : s / 65536 / 256 ≡ s / 16777216 = omega arith in
    steps-parts 24 s
    ∙ ap₂ bit_xor (sym a)
    (steps-parts 16 (s / 256)
    ∙ ap₂ bit_xor (sym b)
    (ap (steps 16) third ∙ steps-parts 8 (s / 65536) ∙ ap₂ bit_xor (sym c) (ap (steps 8) last ∙ sym d)))
    ∙ sym (xor_assoc (slice_index_or after_32 (s % 256) 0) (slice_index_or after_24 (s / 256 % 256) 0) _)
    ∙ sym (xor_assoc _ (slice_index_or after_16 (s / 65536 % 256) 0) (slice_index_or after_8 (s / 16777216) 0))

pub four-taken : (r a b c d w : ℕ) → r < 2 ^ 32 → a < 256 → b < 256 → c < 256 → d < 256
    → w ≡ ((d * 2 ^ 8 + c) * 2 ^ 8 + b) * 2 ^ 8 + a
    → TakesIn r (a ∷ b ∷ c ∷ d ∷ [])
    (bit_xor
    (bit_xor
    (bit_xor (slice_index_or after_32 (bit_xor r w % 256) 0) (slice_index_or after_24 (bit_xor r w / 256 % 256) 0))
    (slice_index_or after_16 (bit_xor r w / 65536 % 256) 0))
    (slice_index_or after_8 (bit_xor r w / 16777216) 0))
four-taken r a b c d w h ha hb hc hd is n rest enough =
    let fits : w < 2 ^ 32 = omega (arith, ha, hb, hc, hd, is) in
    ap (λ l. divided (32 + n) (added (low_bits 32 r) (l ++ rest)))
    (low-four a b c d ha hb hc ∙ ap (low_bits 32) (sym is))
    ∙ number-taken 32 0 r w n rest refl h fits fits enough
    ∙ ap (λ x. divided n (added (low_bits 32 x) rest)) (steps-four (bit_xor r w) (xor_lt 32 r w h fits))

-- ---- one after the other

pub none-taken : (r : ℕ) → TakesIn r [] r
none-taken r n rest enough = ap (λ m. divided m (added (low_bits 32 r) rest)) (omega arith)

pub more-taken : (r s t : ℕ) (xs ys : List ℕ) → TakesIn r xs s → TakesIn s ys t → TakesIn r (xs ++ ys) t
more-taken r s t xs ys first second n rest enough =
    let count : 8 * length (xs ++ ys) + n ≡ 8 * length xs + (8 * length ys + n) = omega (arith, length-append xs ys) in
    ap₂ (λ m l. divided m (added (low_bits 32 r) l)) count
    (ap (λ l. l ++ rest) (flat_map-append (low_bits 8) xs ys) ∙ append_assoc (sent xs) (sent ys) rest)
    ∙ first (8 * length ys + n) (sent ys ++ rest) (omega (arith, enough, length-append (sent ys) rest))
    ∙ second n rest enough

-- a byte at an index, and then those after it
pub one-more : (r s t : ℕ) (xs : List ℕ) (i : ℕ) → i < length xs → TakesIn r (get_or xs i 0 ∷ []) s
    → TakesIn s (drop (i + 1) xs) t → TakesIn r (drop i xs) t
one-more r s t xs i h first second =
    let e : drop i xs ≡ get_or xs i 0 ∷ drop (i + 1) xs = rw add-one (drop-cons xs i 0 h) in
    subst (λ l. TakesIn r l t) (sym e) (more-taken r s t (get_or xs i 0 ∷ []) (drop (i + 1) xs) first second)

pub four-more : (r s t : ℕ) (xs : List ℕ) → 4 ≤ length xs
    → TakesIn r (get_or xs 0 0 ∷ get_or xs 1 0 ∷ get_or xs 2 0 ∷ get_or xs 3 0 ∷ []) s
    → TakesIn s (take (length xs - 4) (drop 4 xs)) t → TakesIn r xs t
four-more r s t (a ∷ b ∷ c ∷ d ∷ xs) h first second =
    let all : take (length (a ∷ b ∷ c ∷ d ∷ xs) - 4) xs ≡ xs = take_all _ xs (omega arith) in
    more-taken r s t (a ∷ b ∷ c ∷ d ∷ []) xs first (subst (λ l. TakesIn s l t) all second)
four-more r s t [] h first second = absurd (omega (arith, h))
four-more r s t (a ∷ []) h first second = absurd (omega (arith, h))
four-more r s t (a ∷ b ∷ []) h first second = absurd (omega (arith, h))
four-more r s t (a ∷ b ∷ c ∷ []) h first second = absurd (omega (arith, h))
