-- Numbers and the bytes that spell them.
use Rattle.std.proofs.Common.{◌≡◌, ℕ, zero, suc, ◌+◌, ◌*◌, ◌/◌, ◌%◌, ◌^◌, ◌<◌, List, [], ◌∷◌, ◌++◌, length, refl, sym, ap, ◌∙◌, arith}
use Rattle.std.proofs.Math.Nat.{pow-suc, mul_comm, mod-eq_of_lt}
use Rattle.std.proofs.Math.Arith.{mod-mul}
use Rattle.std.proofs.lemmas.Nat.{same_from_place, mul-add-lt, pow-add}
use Rattle.std.proofs.lemmas.List.{length-append}
use Rattle.std.specs.Int.{bytes_high_first}
use Rattle.ether_base.specs.Bytes.{IsBytes, number, spelled}

pub IsBytes-tail : (b : ℕ) (bytes : List ℕ) → IsBytes (b ∷ bytes) → IsBytes bytes
IsBytes-tail b bytes h i = h (suc i)

pub IsBytes-nil : IsBytes []
IsBytes-nil i = omega arith

pub IsBytes-cons : (b : ℕ) (bytes : List ℕ) → b < 256 → IsBytes bytes → IsBytes (b ∷ bytes)
IsBytes-cons b bytes lt h zero = lt
IsBytes-cons b bytes lt h (suc i) = h i

pub IsBytes-append : (a b : List ℕ) → IsBytes a → IsBytes b → IsBytes (a ++ b)
IsBytes-append [] b ha hb = hb
IsBytes-append (x ∷ a) b ha hb = IsBytes-cons x (a ++ b) (ha 0) (IsBytes-append a b (IsBytes-tail x a ha) hb)

pub number_below : (bytes : List ℕ) → IsBytes bytes → number bytes < 256 ^ length bytes
number_below [] h = omega arith
number_below (b ∷ bytes) h =
    rw pow-suc
    (mul-add-lt b (256 ^ length bytes) (number bytes) 256 (h 0) (number_below bytes (IsBytes-tail b bytes h)))

pub number_injective : (a b : List ℕ) → length a ≡ length b → IsBytes a → IsBytes b → number a ≡ number b → a ≡ b
number_injective [] [] len ha hb e = refl
number_injective [] (y ∷ b) len ha hb e = absurd (omega arith)
number_injective (x ∷ a) [] len ha hb e = absurd (omega arith)
number_injective (x ∷ a) (y ∷ b) len ha hb e =
    let short : length a ≡ length b = omega arith in
    let e' : x * 256 ^ length a + number a ≡ y * 256 ^ length a + number b =
    e ∙ ap (λ (k : ℕ). y * 256 ^ k + number b) (sym short) in
    let both =
    same_from_place x (number a) y (number b) (256 ^ length a) (number_below a (IsBytes-tail x a ha))
    (rw short (number_below b (IsBytes-tail y b hb))) e' in
    let rest = number_injective a b short (IsBytes-tail x a ha) (IsBytes-tail y b hb) both.1 in
    cc (both.0, rest)

pub length-spelled : (k n : ℕ) → length (spelled k n) ≡ k
unfolding spelled
length-spelled zero n = refl
length-spelled (suc k) n = ap suc (length-spelled k n)

pub IsBytes-spelled : (k n : ℕ) → IsBytes (spelled k n)
unfolding spelled
IsBytes-spelled zero n i = omega arith
IsBytes-spelled (suc k) n zero = omega arith
IsBytes-spelled (suc k) n (suc i) = IsBytes-spelled k n i

pos_256 : (k : ℕ) → 0 < 256 ^ k
pos_256 zero = omega arith
pos_256 (suc k) = let h = pos_256 k in rw pow-suc (omega arith)

number_spelled_mod : (k n : ℕ) → number (spelled k n) ≡ n % 256 ^ k
unfolding spelled
number_spelled_mod zero n = omega arith
number_spelled_mod (suc k) n =
    rw (length-spelled k n, number_spelled_mod k n, pow-suc, mul_comm (256 ^ k) 256)
    (sym (mod-mul n {m = 256} {c = 256 ^ k} (omega arith) (pos_256 k)))

-- what was spelled is read again
pub number-spelled : (k n : ℕ) → n < 256 ^ k → number (spelled k n) ≡ n
number-spelled k n lt = number_spelled_mod k n ∙ mod-eq_of_lt lt

-- what was read is spelled so
pub spelled-number : (bytes : List ℕ) → IsBytes bytes → spelled (length bytes) (number bytes) ≡ bytes
spelled-number bytes h =
    number_injective (spelled (length bytes) (number bytes)) bytes (length-spelled (length bytes) (number bytes))
    (IsBytes-spelled (length bytes) (number bytes)) h
    (number-spelled (length bytes) (number bytes) (number_below bytes h))

-- k bytes are those of their number
pub spelled-is : (k : ℕ) (bytes : List ℕ) → length bytes ≡ k → IsBytes bytes → spelled k (number bytes) ≡ bytes
spelled-is k bytes len ok = ap (λ (n : ℕ). spelled n (number bytes)) (sym len) ∙ spelled-number bytes ok

-- the two bytes of a number
pub IsBytes-two : (n : ℕ) → IsBytes (n / 256 % 256 ∷ n % 256 ∷ [])
IsBytes-two n =
    IsBytes-cons (n / 256 % 256) (n % 256 ∷ []) (omega arith) (IsBytes-cons (n % 256) [] (omega arith) IsBytes-nil)

pub IsBytes-six : (a b c d e f : ℕ) → a < 256 → b < 256 → c < 256 → d < 256 → e < 256 → f < 256
    → IsBytes (a ∷ b ∷ c ∷ d ∷ e ∷ f ∷ [])
IsBytes-six a b c d e f ha hb hc hd he hf =
    IsBytes-cons a (b ∷ c ∷ d ∷ e ∷ f ∷ []) ha
    (IsBytes-cons b (c ∷ d ∷ e ∷ f ∷ []) hb
    (IsBytes-cons c (d ∷ e ∷ f ∷ []) hc
    (IsBytes-cons d (e ∷ f ∷ []) hd (IsBytes-cons e (f ∷ []) he (IsBytes-cons f [] hf IsBytes-nil)))))

-- two lists, one after the other
pub number-append : (a b : List ℕ) → number (a ++ b) ≡ number a * 256 ^ length b + number b
number-append [] b = omega arith
number-append (x ∷ a) b =
    let p : x * 256 ^ length (a ++ b) ≡ x * (256 ^ length a * 256 ^ length b) =
    ap (λ (k : ℕ). x * 256 ^ k) (length-append a b) ∙ ap (λ (k : ℕ). x * k) (pow-add 256 (length a) (length b)) in
    let e = number-append a b in
    omega arith

-- the bytes that a number gives, the highest of them first
pub spelled-high : (k n : ℕ) → bytes_high_first k n ≡ spelled k n
unfolding spelled
spelled-high zero n = refl
spelled-high (suc zero) n = let e : n % 256 ≡ n / 256 ^ 0 % 256 = omega arith in ap (λ (b : ℕ). b ∷ []) e
spelled-high (suc (suc k)) n = ap (λ (bytes : List ℕ). n / 256 ^ suc k % 256 ∷ bytes) (spelled-high (suc k) n)
