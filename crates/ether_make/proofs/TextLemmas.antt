-- Bytes of texts, a pair of digits after another.
use Rattle.std.proofs.Common.{◌≡◌, ℕ, suc, ◌+◌, ◌<◌, ◌≤◌, List, [], ◌∷◌, ◌++◌, length, drop, get_or, Option, Some, None, nat_eq, true, false, option_map, refl, sym, ap, arith, append_assoc, add-one, ◌⊎◌, inl, inr, true≢false}
use Rattle.std.proofs.lemmas.List.{drop_more, drop_all, append-nil}
use Rattle.std.proofs.Math.Nat.{eq-or-lt_of_le}
use Rattle.ether_make.specs.Texts.{hex_pair, hex_bytes, pairs_after, colon_bytes, and_more}

next : (t : List ℕ) (i j : ℕ) → j ≡ i + 1 → i < length t → drop i t ≡ get_or t i 0 ∷ drop j t
next t i j e h = rw e (drop_more t i 0 h)

prepend-more : (done : List ℕ) (b : ℕ) (more : Option (List ℕ))
    → option_map (λ m. done ++ m) (and_more (Some b) more) ≡ option_map (λ m. (done ++ b ∷ []) ++ m) more
prepend-more done b None = refl
prepend-more done b (Some m) = ap Some (sym (append_assoc done (b ∷ []) m))

pub hex-step : (t done : List ℕ) (at b : ℕ) → at + 1 < length t
    → hex_pair (get_or t at 0) (get_or t (at + 1) 0) ≡ Some b
    → option_map (λ m. done ++ m) (hex_bytes (drop at t)) ≡ option_map (λ m. (done ++ b ∷ []) ++ m) (hex_bytes
    (drop (at + 2) t))
hex-step t done at b h pair =
    let e0 = next t at (at + 1) (omega arith) (omega arith) in
    let e1 = next t (at + 1) (at + 2) (omega arith) (omega arith) in
    rw (e0, e1, pair) (prepend-more done b (hex_bytes (drop (at + 2) t)))

pub hex-odd : (t done : List ℕ) (at : ℕ) → at < length t → length t ≤ at + 1
    → option_map (λ m. done ++ m) (hex_bytes (drop at t)) ≡ None
hex-odd t done at h last =
    let e0 = next t at (at + 1) (omega arith) (omega arith) in
    rw (e0, drop_all (at + 1) t last) refl

step : (t done : List ℕ) (at b : ℕ) → at + 2 < length t → nat_eq (get_or t at 0) 58 ≡ true
    → hex_pair (get_or t (at + 1) 0) (get_or t (at + 2) 0) ≡ Some b
    → option_map (λ m. done ++ m) (pairs_after (drop at t)) ≡ option_map (λ m. (done ++ b ∷ []) ++ m) (pairs_after
    (drop (at + 3) t))
step t done at b h colon pair =
    let e0 = next t at (at + 1) (omega arith) (omega arith) in
    let e1 = next t (at + 1) (at + 2) (omega arith) (omega arith) in
    let e2 = next t (at + 2) (at + 3) (omega arith) (omega arith) in
    rw (e0, e1, e2, colon, pair) (prepend-more done b (pairs_after (drop (at + 3) t)))

no_colon : (t done : List ℕ) (at : ℕ) → at + 2 < length t → nat_eq (get_or t at 0) 58 ≡ false
    → option_map (λ m. done ++ m) (pairs_after (drop at t)) ≡ None
no_colon t done at h colon =
    let e0 = next t at (at + 1) (omega arith) (omega arith) in
    let e1 = next t (at + 1) (at + 2) (omega arith) (omega arith) in
    let e2 = next t (at + 2) (at + 3) (omega arith) (omega arith) in
    rw (e0, e1, e2, colon) refl

no_digits : (t done : List ℕ) (at : ℕ) → at + 2 < length t → nat_eq (get_or t at 0) 58 ≡ true
    → hex_pair (get_or t (at + 1) 0) (get_or t (at + 2) 0) ≡ None
    → option_map (λ m. done ++ m) (pairs_after (drop at t)) ≡ None
no_digits t done at h colon pair =
    let e0 = next t at (at + 1) (omega arith) (omega arith) in
    let e1 = next t (at + 1) (at + 2) (omega arith) (omega arith) in
    let e2 = next t (at + 2) (at + 3) (omega arith) (omega arith) in
    rw (e0, e1, e2, colon, pair) refl

one_left : (t done : List ℕ) (at : ℕ) → at + 1 ≡ length t → option_map (λ m. done
    ++ m) (pairs_after (drop at t)) ≡ None
one_left t done at h =
    let e0 = next t at (at + 1) (omega arith) (omega arith) in
    let e1 = drop_all (at + 1) t (omega arith) in
    rw (e0, e1) refl

two_left : (t done : List ℕ) (at : ℕ) → at + 2 ≡ length t → option_map (λ m. done
    ++ m) (pairs_after (drop at t)) ≡ None
two_left t done at h =
    let e0 = next t at (at + 1) (omega arith) (omega arith) in
    let e1 = next t (at + 1) (at + 2) (omega arith) (omega arith) in
    let e2 = drop_all (at + 2) t (omega arith) in
    rw (e0, e1, e2) refl

one_or_two : (n at : ℕ) → at < n → n ≤ at + 2 → (at + 1 ≡ n) ⊎ (at + 2 ≡ n)
one_or_two n at inside last =
    let more : at + 1 ≤ n = omega arith in elim (eq-or-lt_of_le more) [ inl h ↦ inl h | inr h ↦ inr (omega arith) ]

cut : (t done : List ℕ) (at : ℕ) → at < length t → length t ≤ at + 2
    → option_map (λ m. done ++ m) (pairs_after (drop at t)) ≡ None
cut t done at inside last =
    elim (one_or_two (length t) at inside last) [ inl e ↦ one_left t done at e | inr e ↦ two_left t done at e ]

pub pairs-end : (t done : List ℕ) (at : ℕ) → at ≡ length t
    → option_map (λ m. done ++ m) (pairs_after (drop at t)) ≡ Some done
pairs-end t done at h = rw (drop_all at t (omega arith)) (ap Some (append-nil done))

-- ---- in a text, whose first pair has no colon before it

shift : (text : List ℕ) (i : ℕ) → get_or (58 ∷ text) (i + 1) 0 ≡ get_or text i 0
shift text i = rw add-one refl

shift_two : (text : List ℕ) (i : ℕ) → get_or (58 ∷ text) (i + 2) 0 ≡ get_or text (i + 1) 0
shift_two text i = let e : i + 2 ≡ suc (i + 1) = omega arith in rw e refl

pub colon-step : (text done : List ℕ) (at b : ℕ) → at + 1 < length text → nat_eq (get_or (58 ∷ text) at 0) 58 ≡ true
    → hex_pair (get_or text at 0) (get_or text (at + 1) 0) ≡ Some b
    → option_map (λ m. done ++ m) (pairs_after (drop at (58 ∷ text)))
    ≡ option_map (λ m. (done ++ b ∷ []) ++ m) (pairs_after (drop (at + 3) (58 ∷ text)))
colon-step text done at b h colon pair =
    step (58 ∷ text) done at b (omega arith) colon (rw (shift text at, shift_two text at) pair)

pub colon-missing : (text done : List ℕ) (at : ℕ) → at + 1 < length text → nat_eq (get_or (58 ∷ text) at 0) 58 ≡ false
    → option_map (λ m. done ++ m) (pairs_after (drop at (58 ∷ text))) ≡ None
colon-missing text done at h colon = no_colon (58 ∷ text) done at (omega arith) colon

pub colon-no_digits : (text done : List ℕ) (at : ℕ) → at + 1 < length text → nat_eq (get_or (58 ∷ text) at 0) 58 ≡ true
    → hex_pair (get_or text at 0) (get_or text (at + 1) 0) ≡ None
    → option_map (λ m. done ++ m) (pairs_after (drop at (58 ∷ text))) ≡ None
colon-no_digits text done at h colon pair =
    no_digits (58 ∷ text) done at (omega arith) colon (rw (shift text at, shift_two text at) pair)

pub colon-cut : (text done : List ℕ) (at : ℕ) → at ≤ length text → length text ≤ at + 1
    → option_map (λ m. done ++ m) (pairs_after (drop at (58 ∷ text))) ≡ None
colon-cut text done at inside last = cut (58 ∷ text) done at (omega arith) (omega arith)

pub colon-done : (text done : List ℕ) (at : ℕ) → at ≡ length text + 1
    → option_map (λ m. done ++ m) (pairs_after (drop at (58 ∷ text))) ≡ Some done
colon-done text done at h = pairs-end (58 ∷ text) done at (omega arith)

pub colon-some : (text : List ℕ) → 0 < length text → colon_bytes text ≡ pairs_after (58 ∷ text)
colon-some [] h = absurd (omega arith)
colon-some (a ∷ rest) h = refl

pub not_empty : (text : List ℕ) → false ≡ nat_eq (length text) 0 → 0 < length text
not_empty [] e = absurd (true≢false (sym e))
not_empty (a ∷ rest) e = omega arith
