-- Bits, one after the other.
use Rattle.std.proofs.Common.{◌≡◌, ℕ, zero, suc, ◌+◌, ◌-◌, ◌/◌, ◌%◌, ◌^◌, ◌<◌, ◌≤◌, nat_eq, nat_lt, Bool, true, false, List, [], ◌∷◌, ◌++◌, length, drop, get_or, refl, arith, append_assoc, sub-one, length-drop}
use Rattle.std.proofs.lemmas.List.{drop_more, append-nil}
use Rattle.std.proofs.Math.Pow.{pow_mono}
use Rattle.std.proofs.Math.Nat.{div-eq_of_lt}
use mir.Val.{bool_byte}
use Rattle.ether_base.specs.Bytes.{bit}
use Rattle.ether_make.specs.Bits.{bits, byte_of, packed}

bits-suc : (k n : ℕ) → bits (suc k) n ≡ nat_eq (n / 2 ^ k % 2) 1 ∷ bits k n
unfolding bits
bits-suc k n = refl

pub bits-zero : (n : ℕ) → bits zero n ≡ []
unfolding bits
bits-zero n = refl

-- one more bit
pub bits-more : (xs : List Bool) (left n : ℕ) → 0 < left
    → (xs ++ (nat_eq (n / 2 ^ (left - 1) % 2) 1 ∷ [])) ++ bits (left - 1) n ≡ xs ++ bits left n
bits-more xs zero n h = absurd (omega arith)
bits-more xs (suc k) n h = rw (sub-one, bits-suc k n, append_assoc) refl

drop-next : (xs : List Bool) (i j : ℕ) → j ≡ i + 1 → i < length xs → drop i xs ≡ get_or xs i false ∷ drop j xs
drop-next xs i j e h = rw e (drop_more xs i false h)

-- the byte of the next eight bits
pub packed-eight : (xs : List Bool) (at : ℕ) → at + 8 ≤ length xs
    → packed (drop at xs) ≡ byte_of (get_or xs at false) (get_or xs (at + 1) false) (get_or xs (at + 2) false)
    (get_or xs (at + 3) false) (get_or xs (at + 4) false) (get_or xs (at + 5) false) (get_or xs (at + 6) false)
    (get_or xs (at + 7) false) ∷ packed (drop (at + 8) xs)
packed-eight xs at h =
    let e0 = drop-next xs at (at + 1) (omega arith) (omega arith) in
    let e1 = drop-next xs (at + 1) (at + 2) (omega arith) (omega arith) in
    let e2 = drop-next xs (at + 2) (at + 3) (omega arith) (omega arith) in
    let e3 = drop-next xs (at + 3) (at + 4) (omega arith) (omega arith) in
    let e4 = drop-next xs (at + 4) (at + 5) (omega arith) (omega arith) in
    let e5 = drop-next xs (at + 5) (at + 6) (omega arith) (omega arith) in
    let e6 = drop-next xs (at + 6) (at + 7) (omega arith) (omega arith) in
    let e7 = drop-next xs (at + 7) (at + 8) (omega arith) (omega arith) in
    rw (e0, e1, e2, e3, e4, e5, e6, e7) refl

-- fewer than eight bits are no byte
pub packed-end : (xs : List Bool) → length xs < 8 → packed xs ≡ []
packed-end [] h = refl
packed-end (a ∷ []) h = refl
packed-end (a ∷ b ∷ []) h = refl
packed-end (a ∷ b ∷ c ∷ []) h = refl
packed-end (a ∷ b ∷ c ∷ d ∷ []) h = refl
packed-end (a ∷ b ∷ c ∷ d ∷ e ∷ []) h = refl
packed-end (a ∷ b ∷ c ∷ d ∷ e ∷ f ∷ []) h = refl
packed-end (a ∷ b ∷ c ∷ d ∷ e ∷ f ∷ g ∷ []) h = refl
packed-end (a ∷ b ∷ c ∷ d ∷ e ∷ f ∷ g ∷ i ∷ rest) h = absurd (omega arith)

pub bool_byte-bit : (b : Bool) → bool_byte b ≡ bit b
bool_byte-bit true = refl
bool_byte-bit false = refl

pub bits-done : (xs : List Bool) (left n : ℕ) → left ≤ 0 → xs ++ bits left n ≡ xs
bits-done xs left n h = let e : left ≡ zero = omega arith in rw (e, bits-zero n) (append-nil xs)

pub packed-done : (done : List ℕ) (xs : List Bool) (at : ℕ) → length xs < at + 8 → done ++ packed (drop at xs) ≡ done
packed-done done xs at h =
    let few : length (drop at xs) < 8 = simp length-drop (omega arith) in rw (packed-end (drop at xs) few)
    (append-nil done)

pub bit-far : (n place : ℕ) → n < 2 ^ 64 → 64 ≤ place → nat_eq (n / 2 ^ place % 2) 1 ≡ false
bit-far n place small far =
    let less : n < 2 ^ place = omega (arith, pow_mono {i = 64} {j = place} far) in rw (div-eq_of_lt less) refl

pub fits-far : (n len : ℕ) → n < 2 ^ 64 → 64 ≤ len → nat_lt n (2 ^ len) ≡ true
fits-far n len small far =
    let less : n < 2 ^ len = omega (arith, pow_mono {i = 64} {j = len} far) in grind arith
