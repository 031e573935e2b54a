-- Lists are the same part by part.
use Rattle.std.proofs.Common.{◌≡◌, ◌==◌, ◌&&◌, ℕ, List, [], ◌∷◌, ◌++◌, length, refl, ap, sym, ◌∙◌, arith}
use Rattle.std.proofs.Math.Bool.{and_assoc}
use Rattle.std.specs.Cmp.Lexicographic.{pointwise}
use Rattle.ether_base.proofs.ArrayElements.{cells, cells-all}

pointwise-append : (us vs xs ys : List ℕ) → length us ≡ length vs
    → pointwise ◌==◌ (us ++ xs) (vs ++ ys) ≡ pointwise ◌==◌ us vs && pointwise ◌==◌ xs ys
pointwise-append [] [] xs ys e = refl
pointwise-append [] (v ∷ vs) xs ys e = absurd cc
pointwise-append (u ∷ us) [] xs ys e = absurd cc
pointwise-append (u ∷ us) (v ∷ vs) xs ys e =
    ap (λ b. (u == v) && b) (pointwise-append us vs xs ys (omega arith))
    ∙ sym (and_assoc (u == v) (pointwise ◌==◌ us vs) (pointwise ◌==◌ xs ys))

-- fourteen elements as eight, four and two
pub fourteen_same : (a b : List ℕ) → length a ≡ 14 → length b ≡ 14
    → pointwise ◌==◌ a b
    ≡ pointwise ◌==◌ (cells 0 8 a) (cells 0 8 b)
    && (pointwise ◌==◌ (cells 8 4 a) (cells 8 4 b) && pointwise ◌==◌ (cells 12 2 a) (cells 12 2 b))
fourteen_same a b la lb =
    let whole : pointwise ◌==◌ a b ≡ pointwise ◌==◌ (cells 0 14 a) (cells 0 14 b) =
    λ i. pointwise ◌==◌ (sym (cells-all 14 a la) i) (sym (cells-all 14 b lb) i) in
    whole
    ∙ pointwise-append (cells 0 8 a) (cells 0 8 b) (cells 8 6 a) (cells 8 6 b) refl
    ∙ ap (λ t. pointwise ◌==◌ (cells 0 8 a) (cells 0 8 b) && t)
    (pointwise-append (cells 8 4 a) (cells 8 4 b) (cells 12 2 a) (cells 12 2 b) refl)
