-- The first and the last of the identifiers of VLAN tags.
use Rattle.std.proofs.Common.{◌≡◌, ℕ, List, [], ◌∷◌, ◌++◌, refl, sym, ap, nat_eq, IsTrue, ◌↔◌}
use Rattle.std.specs.Prelude.{Some}
use Rattle.std.proofs.lemmas.Bool.{eqb-true, eq-eqb}
use Rattle.ether_filter.specs.Seen.{first, last_from, last_other}
use Rattle.ether_filter.specs.TagMarks.{is_some_number}

-- ---- what they say of the list

pub first_is : (n : ℕ) (ids : List ℕ)
    → IsTrue (is_some_number n (first ids)) ↔ ((inner : List ℕ) × (ids ≡ n ∷ inner))
first_is n [] = (λ t. absurd cc, λ (inner, is). absurd cc)
first_is n (id ∷ ids) = (
  λ t. (ids, ap (λ (i : ℕ). i ∷ ids) (sym (eqb-true n id t))),
  λ (inner, is). eq-eqb n id (let same : n ≡ id = cc in same),
)

only_one : (n id : ℕ) (between : List ℕ) → id ∷ [] ≡ between ++ n ∷ [] → n ≡ id
only_one n id [] is = cc
only_one n id (b ∷ []) is = absurd cc
only_one n id (b ∷ c ∷ bs) is = absurd cc

shorter : (n id i : ℕ) (ids between : List ℕ) → id ∷ i ∷ ids ≡ between ++ n ∷ [] → (rest : List ℕ)
    × (i ∷ ids ≡ rest ++ n ∷ [])
shorter n id i ids [] is = absurd cc
shorter n id i ids (b ∷ bs) is = let same : i ∷ ids ≡ bs ++ n ∷ [] = cc in (bs, same)

last_is : (n id : ℕ) (ids : List ℕ) → IsTrue (nat_eq n (last_from id ids))
    ↔ ((between : List ℕ) × (id ∷ ids ≡ between ++ n ∷ []))
last_is n id [] =
    (λ t. ([], ap (λ (i : ℕ). i ∷ []) (sym (eqb-true n id t))), λ (between, is). eq-eqb n id (only_one n id between is))
last_is n id (i ∷ ids) =
    let later = last_is n i ids in (
      λ t. let found = later.0 t
          in (id ∷ found.0, ap (λ (l : List ℕ). id ∷ l) found.1),
      λ (between, is). later.1
          (shorter n id i ids between is),
    )

never : (n : ℕ) (between : List ℕ) → [] ≡ between ++ n ∷ [] → ⊥
never n [] is = cc
never n (b ∷ bs) is = cc

pub last_other_is : (n : ℕ) (ids : List ℕ) → IsTrue (is_some_number n (last_other ids))
    ↔ ((outer : ℕ) × (between : List ℕ) × (ids ≡ outer ∷ (between ++ n ∷ [])))
last_other_is n [] = (λ t. absurd cc, λ (outer, between, is). absurd cc)
last_other_is n (id ∷ []) =
    (λ t. absurd cc, λ (outer, between, is). let empty : [] ≡ between ++ n ∷ [] = cc in absurd (never n between empty))
last_other_is n (id ∷ i ∷ ids) =
    let later = last_is n i ids in (
      λ t. let found = later.0 t in (id, found.0, ap (λ (l : List ℕ). id ∷ l) found.1),
      λ (outer, between, is). later.1 (between, (let same : i ∷ ids ≡ between ++ n ∷ [] = cc in same)),
    )

-- ---- with a further one at the end

last_snoc : (m n : ℕ) (ids : List ℕ) → last_from m (ids ++ n ∷ []) ≡ n
last_snoc m n [] = refl
last_snoc m n (id ∷ ids) = last_snoc id n ids

pub last_other_after : (id n : ℕ) (ids : List ℕ) → last_other ((id ∷ ids) ++ n ∷ []) ≡ Some n
last_other_after id n [] = refl
last_other_after id n (i ∷ ids) = ap Some (last_snoc i n ids)
