-- The days of the months of a year.
use Rattle.std.proofs.Common.{◌≡◌, ℕ, zero, suc, ◌+◌, List, [], ◌∷◌, take, drop, refl, arith}
use Rattle.std.specs.Prelude.{slice_index_or}
use Rattle.ether_format.specs.Calendar.{sum}

pub sum_both : (l : List ℕ) (n : ℕ) → sum (take n l) + sum (drop n l) ≡ sum l
sum_both [] zero = refl
sum_both [] (suc n) = refl
sum_both (x ∷ l) zero = let e : sum (take zero (x ∷ l)) ≡ 0 = refl in omega arith
sum_both (x ∷ l) (suc n) = let e = sum_both l n in omega arith

pub sum_next : (l : List ℕ) (n : ℕ) → sum (drop n l) ≡ slice_index_or l n 0 + sum (drop (suc n) l)
sum_next [] zero = refl
sum_next [] (suc n) = refl
sum_next (x ∷ l) zero = refl
sum_next (x ∷ l) (suc n) = sum_next l n
