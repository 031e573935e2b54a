-- A list whose elements are mapped one by one.
use Rattle.std.proofs.Common.{◌≡◌, ℕ, zero, suc, ◌<◌, List, [], ◌∷◌, ◌++◌, length, map, take, drop, set, get_or, refl, ap, arith}

-- those before an index are mapped
abbrev pub mapped_to : {A : Type 0} → (A → A) → ℕ → List A → List A
mapped_to f n l = map f (take n l) ++ drop n l

pub mapped_more : {A : Type 0} (f : A → A) (l : List A) (n : ℕ) (d : A) → n < length l
    → set (mapped_to f n l) n (f (get_or (mapped_to f n l) n d)) ≡ mapped_to f (suc n) l
mapped_more f [] n d lt = absurd (omega (arith, lt))
mapped_more f (x ∷ xs) zero d lt = refl
mapped_more f (x ∷ xs) (suc n) d lt =
    ap (λ (l : List _). f x ∷ l) (mapped_more f xs n d (omega (arith, lt)))

pub mapped_all : {A : Type 0} (f : A → A) (l : List A) → mapped_to f (length l) l ≡ map f l
mapped_all f [] = refl
mapped_all f (x ∷ xs) = ap (λ (l : List _). f x ∷ l) (mapped_all f xs)
