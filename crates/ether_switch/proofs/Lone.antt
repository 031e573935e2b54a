-- The buckets of a station have at most one sighting of it.
use Rattle.std.proofs.Common.{◌≡◌, ◌≢◌, ℕ, zero, suc, ◌<◌, ◌⊎◌, inl, inr, Bool, true, false, ◌||◌, nat_eq, if◌then◌else◌, List, [], ◌∷◌, ◌++◌, length, filter, set, get_or, Option, Some, None, refl, sym, ap, subst, ◌∙◌, arith, get_or-set_other, get_or-set_same}
use Rattle.std.specs.Prelude.{option_map, unwrap_or}
use Rattle.std.specs.List.{list_any}
use Rattle.std.proofs.lemmas.Bool.{cases_eq, eqb-true, eqb-false, eq-eqb}
use Rattle.std.proofs.lemmas.List.Elements.{filter-append}
use Rattle.ether_switch.specs.declared.stations.Sighting.{Sighting}
use Rattle.ether_switch.specs.declared.stations.StationBucket.{StationBucket}
use Rattle.ether_switch.specs.Stations.{no_sightings, places, with_place, is_of, is_free, leaving, first_place, place_for, places_at, put_at}
use Rattle.ether_switch.proofs.Fair.{fullest, is_place}

-- ---- none or one sighting

-- none, or one with this property
abbrev pub Lone : (Sighting → Type 0) → List Sighting → Type 0
Lone R l = (l ≡ []) ⊎ ((g : Sighting) × (l ≡ g ∷ []) × R g)

-- if there is at most one in l, it is the only one in k, if there is one
pub record Narrow (l k : List Sighting) : Type 0 where
  pub none : l ≡ [] → k ≡ []
  pub one : (g : Sighting) → l ≡ g ∷ [] → (k ≡ []) ⊎ (k ≡ g ∷ [])

pub same : (l k : List Sighting) → k ≡ l → Narrow l k
same l k e = record { none = λ z. e ∙ z; one = λ g z. inr (e ∙ z) }

pub narrowed : (R : Sighting → Type 0) (l k : List Sighting) → Lone R l → Narrow l k → Lone R k
narrowed R l k (inl none) n = inl (n.none none)
narrowed R l k (inr one) n = elim (n.one one.0 one.1) [
  | inl e ↦ inl e
  | inr e ↦ inr (one.0, e, one.2)
]

-- the parts of none or one
pub record Parts (l k : List Sighting) (g : Sighting) : Type 0 where
  pub split : ((l ≡ g ∷ []) × (k ≡ [])) ⊎ ((l ≡ []) × (k ≡ g ∷ []))

pub no_parts : (l k : List Sighting) → l ++ k ≡ [] → (l ≡ []) × (k ≡ [])
no_parts [] k e = (refl, e)
no_parts (x ∷ l) k e = absurd cc

pub parts : (l k : List Sighting) (g : Sighting) → l ++ k ≡ g ∷ [] → Parts l k g
parts [] k g e = record { split = inr (refl, e) }
parts (x ∷ []) [] g e = record { split = inl (e, refl) }
parts (x ∷ []) (y ∷ k) g e = absurd cc
parts (x ∷ y ∷ l) k g e = absurd cc

pub narrow_append : (l k m n : List Sighting) → Narrow l k → Narrow m n → Narrow (l ++ m) (k ++ n)
narrow_append l k m n a b = record {
  none = λ e.
      let p = no_parts l m e in
      (λ i. a.none p.0 i ++ b.none p.1 i);
  one = λ g e. elim ((parts l m g e).split) [
    | inl p ↦ elim (a.one g p.0) [
      | inl z ↦ inl (λ i. z i ++ b.none p.1 i)
      | inr z ↦ inr (λ i. z i ++ b.none p.1 i)
    ]
    | inr p ↦ elim (b.one g p.1) [
      | inl z ↦ inl (λ i. a.none p.0 i ++ z i)
      | inr z ↦ inr (λ i. a.none p.0 i ++ z i)
    ]
  ];
}

pub lone_left : (R : Sighting → Type 0) (l k : List Sighting) → Lone R (l ++ k) → Lone R l
lone_left R l k (inl none) = inl (no_parts l k none).0
lone_left R l k (inr one) = elim ((parts l k one.0 one.1).split) [
  | inl p ↦ inr (one.0, p.0, one.2)
  | inr p ↦ inl p.0
]

pub lone_right : (R : Sighting → Type 0) (l k : List Sighting) → Lone R (l ++ k) → Lone R k
lone_right R l k (inl none) = inl (no_parts l k none).1
lone_right R l k (inr one) = elim ((parts l k one.0 one.1).split) [
  | inl p ↦ inl p.1
  | inr p ↦ inr (one.0, p.1, one.2)
]

pub rest_none : (R : Sighting → Type 0) (l k : List Sighting) → Lone R (l ++ k) → l ≢ [] → k ≡ []
rest_none R l k (inl none) some = (no_parts l k none).1
rest_none R l k (inr one) some = elim ((parts l k one.0 one.1).split) [
  | inl p ↦ p.1
  | inr p ↦ absurd (some p.0)
]

-- ---- one place is set

pub set_narrow_here : (p : Sighting → Bool) (f x : Sighting) (l : List Sighting) (b c : Bool) → c ≡ false
    → Narrow (if b then x ∷ filter p l else filter p l) (if c then f ∷ filter p l else filter p l)
set_narrow_here p f x l true false e = record {
  none = λ z. absurd cc;
  one = λ g z. let rest : filter p l ≡ [] = cc in inl rest;
}
set_narrow_here p f x l false false e = same (filter p l) (filter p l) refl
set_narrow_here p f x l b true e = absurd cc

pub narrow_cons : (x : Sighting) (l k : List Sighting) (b : Bool) → Narrow l k
    → Narrow (if b then x ∷ l else l) (if b then x ∷ k else k)
narrow_cons x l k true n = record {
  none = λ z. absurd cc;
  one = λ g z.
      let rest : l ≡ [] = cc in
      let is : x ≡ g = cc in
      inr (λ i. is i ∷ n.none rest i);
}
narrow_cons x l k false n = n

-- by one of another station
pub set_narrow : (p : Sighting → Bool) (f : Sighting) → p f ≡ false → (l : List Sighting) (j : ℕ)
    → Narrow (filter p l) (filter p (set l j f))
set_narrow p f is [] zero = same [] [] refl
set_narrow p f is [] (suc j) = same [] [] refl
set_narrow p f is (x ∷ l) zero = set_narrow_here p f x l (p x) (p f) is
set_narrow p f is (x ∷ l) (suc j) = narrow_cons x (filter p l) (filter p (set l j f)) (p x) (set_narrow p f is l j)

-- by one of the station, which is the only one then
pub none_choice : (p : Sighting → Bool) (x : Sighting) (l : List Sighting) (b : Bool)
    → (if b then x ∷ filter p l else filter p l) ≡ [] → (b ≡ false) × (filter p l ≡ [])
none_choice p x l true e = absurd cc
none_choice p x l false e = (refl, e)

pub set_only : (p : Sighting → Bool) (f : Sighting) → p f ≡ true → (l : List Sighting) (j : ℕ) → filter p l ≡ []
    → j < length l → filter p (set l j f) ≡ f ∷ []
set_only p f is [] j none lt = absurd (omega (arith, lt))
set_only p f is (x ∷ l) zero none lt =
    ap (λ (b : Bool). if b then f ∷ filter p l else filter p l) is
    ∙ ap (λ (k : List Sighting). f ∷ k) (none_choice p x l (p x) none).1
set_only p f is (x ∷ l) (suc j) none lt =
    let n = none_choice p x l (p x) none in
    ap (λ (b : Bool). if b then x ∷ filter p (set l j f) else filter p (set l j f)) n.0
    ∙ set_only p f is l j n.1 (omega (arith, lt))

pub no_place : (p : Sighting → Bool) (l : List Sighting) → first_place p l ≡ None → filter p l ≡ []
no_place p [] e = refl
no_place p (x ∷ l) e = choice (p x) e (no_place p l)
  where
    next : (o : Option ℕ) → option_map suc o ≡ None → o ≡ None
    next None e = refl
    next (Some k) e = absurd cc

    choice : (b : Bool) → (if b then Some 0 else option_map suc (first_place p l)) ≡ None
        → (first_place p l ≡ None → filter p l ≡ []) → (if b then x ∷ filter p l else filter p l) ≡ []
    choice true e rest = absurd cc
    choice false e rest = rest (next (first_place p l) e)

pub set_next : (p : Sighting → Bool) (f x g : Sighting) (l : List Sighting) (d : ℕ) (o : Option ℕ) → p x ≡ false
    → first_place p l ≡ o → filter p l ≡ g ∷ []
    → filter p (set l (unwrap_or o d) f) ≡ f ∷ []
    → filter p (set (x ∷ l) (unwrap_or (option_map suc o) d) f) ≡ f ∷ []
set_next p f x g l d None is first one rest =
    let none = no_place p l first in
    let both : g ∷ [] ≡ [] = sym one ∙ none in absurd cc
set_next p f x g l d (Some k) is first one rest =
    ap (λ (b : Bool). if b then x ∷ filter p (set l k f) else filter p (set l k f)) is ∙ rest

pub set_first : (p : Sighting → Bool) (f : Sighting) → p f ≡ true → (l : List Sighting) (g : Sighting) (d : ℕ)
    → filter p l ≡ g ∷ [] → filter p (set l (unwrap_or (first_place p l) d) f) ≡ f ∷ []
set_first p f is [] g d one = absurd cc
set_first p f is (x ∷ l) g d one = choice (p x) refl one (set_first p f is l g d)
  where
    choice : (b : Bool) → p x ≡ b → (if b then x ∷ filter p l else filter p l) ≡ g ∷ []
        → (filter p l ≡ g ∷ [] → filter p (set l (unwrap_or (first_place p l) d) f) ≡ f ∷ [])
        → filter p (set (x ∷ l) (unwrap_or (if b then Some 0 else option_map suc (first_place p l)) d) f) ≡ f ∷ []
    choice true px e rest =
        let none : filter p l ≡ [] = cc in
        ap (λ (c : Bool). if c then f ∷ filter p l else filter p l) is ∙ ap (λ (k : List Sighting). f ∷ k) none
    choice false px e rest = set_next p f x g l d (first_place p l) px refl e (rest e)

-- ---- a bucket

pub set_place : (b : StationBucket) (k : ℕ) (f : Sighting) → k < 4 → places (with_place k f b) ≡ set (places b) k f
set_place b zero f lt = refl
set_place b (suc zero) f lt = refl
set_place b (suc (suc zero)) f lt = refl
set_place b (suc (suc (suc zero))) f lt = refl
set_place b (suc (suc (suc (suc k)))) f lt = absurd (omega (arith, lt))

pub place_lt : (ageing : ℕ) (f : Sighting) (b : StationBucket) (o q : Option ℕ)
    → first_place (is_of f.address) (places b) ≡ o → first_place (is_free ageing f.time) (places b) ≡ q
    → unwrap_or o (unwrap_or q (leaving f (places b))) < 4
place_lt ageing f b (Some k) q own free = (is_place (is_of f.address) (places b) k own).within
place_lt ageing f b None (Some k) own free = (is_place (is_free ageing f.time) (places b) k free).within
place_lt ageing f b None None own free = (fullest f (places b)).within

pub place_within : (ageing : ℕ) (f : Sighting) (b : StationBucket) → place_for ageing f (places b) < 4
place_within ageing f b =
    place_lt ageing f b (first_place (is_of f.address) (places b)) (first_place (is_free ageing f.time) (places b)) refl
    refl

-- after a sighting of its station
pub own_bucket : (R : Sighting → Type 0) (ageing : ℕ) (f : Sighting) (b : StationBucket)
    → Lone R (filter (is_of f.address) (places b))
    → filter (is_of f.address) (places (with_place (place_for ageing f (places b)) f b)) ≡ f ∷ []
own_bucket R ageing f b lone =
    let p = is_of f.address in
    let k = place_for ageing f (places b) in
    let lt = place_within ageing f b in
    let is : p f ≡ true = eq-eqb f.address f.address refl in
    ap (filter p) (set_place b k f lt) ∙ elim lone [
      | inl none ↦ set_only p f is (places b) k none lt
      | inr one ↦ set_first p f is (places b) one.0 _ one.1
    ]

-- ---- the two buckets of a station

-- the sightings in two buckets, which may be one
abbrev pub second_of : Bool → List Sighting → List Sighting
second_of c l = if c then [] else l

abbrev pub in_both : (m n : ℕ) → List StationBucket → List Sighting
in_both m n t = places_at t m ++ second_of (nat_eq m n) (places_at t n)

-- a bucket is set
abbrev pub put : List StationBucket → (k j : ℕ) → Sighting → List StationBucket
put t k j f = set t k (with_place j f (get_or t k no_sightings))

pub put_here : (t : List StationBucket) (k j : ℕ) (f : Sighting) → k < length t
    → places_at (put t k j f) k ≡ places (with_place j f (get_or t k no_sightings))
put_here t k j f lt = ap places (get_or-set_same t k (with_place j f (get_or t k no_sightings)) no_sightings lt)

pub put_there : (t : List StationBucket) (k j i : ℕ) (f : Sighting) → i ≢ k
    → places_at (put t k j f) i ≡ places_at t i
put_there t k j i f ne =
    ap places (get_or-set_other t k i (with_place j f (get_or t k no_sightings)) no_sightings ne)

-- by a sighting of another station
pub put_narrow : (p : Sighting → Bool) (t : List StationBucket) (k j i : ℕ) (f : Sighting) → p f ≡ false → k < length t
    → j < 4 → Narrow (filter p (places_at t i)) (filter p (places_at (put t k j f) i))
put_narrow p t k j i f is lt few = elim (cases_eq i k) [
  | inl e ↦
      let b = get_or t k no_sightings in
      let n = set_narrow p f is (places b) j in
      let now : places_at (put t k j f) i ≡ set (places b) j f =
      ap (places_at (put t k j f)) e ∙ put_here t k j f lt ∙ set_place b j f few in
      subst (λ (l : List Sighting). Narrow (filter p l) (filter p (places_at (put t k j f) i)))
      (sym (ap (places_at t) e)) (subst (λ (l : List Sighting). Narrow (filter p (places b)) (filter p l)) (sym now) n)
  | inr ne ↦ same _ _ (ap (filter p) (put_there t k j i f ne))
]

pub second_narrow : (p : Sighting → Bool) (c : Bool) (l k : List Sighting) → Narrow (filter p l) (filter p k)
    → Narrow (filter p (second_of c l)) (filter p (second_of c k))
second_narrow p true l k n = same [] [] refl
second_narrow p false l k n = n

pub both_narrow : (p : Sighting → Bool) (m n : ℕ) (t u : List StationBucket)
    → Narrow (filter p (places_at t m)) (filter p (places_at u m))
    → Narrow (filter p (places_at t n)) (filter p (places_at u n))
    → Narrow (filter p (in_both m n t)) (filter p (in_both m n u))
both_narrow p m n t u a b =
    let c = nat_eq m n in
    subst (λ (l : List Sighting). Narrow l (filter p (in_both m n u)))
    (sym (filter-append p (places_at t m) (second_of c (places_at t n))))
    (subst (λ (l : List Sighting). Narrow (filter p (places_at t m) ++ filter p (second_of c (places_at t n))) l)
    (sym (filter-append p (places_at u m) (second_of c (places_at u n))))
    (narrow_append (filter p (places_at t m)) (filter p (places_at u m)) (filter p (second_of c (places_at t n)))
    (filter p (second_of c (places_at u n))) a (second_narrow p c (places_at t n) (places_at u n) b)))

-- by a sighting of the station: in the first of them
pub own_first : (p : Sighting → Bool) (m n : ℕ) (t : List StationBucket) (j : ℕ) (f : Sighting) (c : Bool)
    → nat_eq m n ≡ c → m < length t
    → filter p (places (with_place j f (get_or t m no_sightings))) ≡ f ∷ []
    → (c ≡ false → filter p (places_at t n) ≡ [])
    → filter p (places_at (put t m j f) m) ++ filter p (second_of c (places_at (put t m j f) n)) ≡ f ∷ []
own_first p m n t j f true is lt one none =
    ap (λ (l : List Sighting). l ++ []) (ap (filter p) (put_here t m j f lt) ∙ one)
own_first p m n t j f false is lt one none =
    let ne : n ≢ m = λ e. eqb-false m n is (sym e) in
    (λ i. (ap (filter p) (put_here t m j f lt) ∙ one) i ++ filter p (put_there t m j n f ne i))
    ∙ ap (λ (l : List Sighting). f ∷ l) (none refl)

-- .. in the second
pub own_second : (p : Sighting → Bool) (m n : ℕ) (t : List StationBucket) (j : ℕ) (f : Sighting) (c : Bool)
    → nat_eq m n ≡ c → n < length t
    → filter p (places (with_place j f (get_or t n no_sightings))) ≡ f ∷ []
    → filter p (places_at t m) ≡ []
    → filter p (places_at (put t n j f) m) ++ filter p (second_of c (places_at (put t n j f) n)) ≡ f ∷ []
own_second p m n t j f true is lt one none =
    let e = eqb-true m n is in
    ap (λ (l : List Sighting). l ++ [])
    (ap (λ (i : ℕ). filter p (places_at (put t n j f) i)) e ∙ ap (filter p) (put_here t n j f lt) ∙ one)
own_second p m n t j f false is lt one none =
    let ne : m ≢ n = eqb-false m n is in
    (λ i. filter p (put_there t n j m f ne i) ++ (ap (filter p) (put_here t n j f lt) ∙ one) i)
    ∙ ap (λ (l : List Sighting). l ++ f ∷ []) none

pub any_none : (p : Sighting → Bool) (l : List Sighting) → list_any p l ≡ false → filter p l ≡ []
any_none p [] e = refl
any_none p (x ∷ l) e = choice (p x) e (any_none p l)
  where
    choice : (b : Bool) → (b || list_any p l) ≡ false → (list_any p l ≡ false → filter p l ≡ [])
        → (if b then x ∷ filter p l else filter p l) ≡ []
    choice true e rest = absurd cc
    choice false e rest = rest e

pub any_some : (p : Sighting → Bool) (l : List Sighting) → list_any p l ≡ true → filter p l ≢ []
any_some p [] e = absurd cc
any_some p (x ∷ l) e = choice (p x) e (any_some p l)
  where
    choice : (b : Bool) → (b || list_any p l) ≡ true → (list_any p l ≡ true → filter p l ≢ [])
        → (if b then x ∷ filter p l else filter p l) ≢ []
    choice true e rest = λ z. cc
    choice false e rest = rest e

pub second_none : (p : Sighting → Bool) (c : Bool) (l : List Sighting) → filter p (second_of c l) ≡ [] → c ≡ false
    → filter p l ≡ []
second_none p true l none is = absurd cc
second_none p false l none is = none

pub lone_second : (R : Sighting → Type 0) (p : Sighting → Bool) (m n : ℕ) (t : List StationBucket) (c : Bool)
    → nat_eq m n ≡ c → Lone R (filter p (places_at t m) ++ filter p (second_of c (places_at t n)))
    → Lone R (filter p (places_at t n))
lone_second R p m n t true is lone =
    subst (λ (k : ℕ). Lone R (filter p (places_at t k))) (eqb-true m n is)
    (lone_left R (filter p (places_at t m)) [] lone)
lone_second R p m n t false is lone = lone_right R (filter p (places_at t m)) (filter p (places_at t n)) lone

-- the station is in one of them, or in none
pub own_by : (R : Sighting → Type 0) (ageing : ℕ) (f : Sighting) (m n : ℕ) (t : List StationBucket) (a b x : Bool)
    → let p = is_of f.address in
    list_any p (places_at t m) ≡ a → list_any p (places_at t n) ≡ b → m < length t → n < length t
    → Lone R (filter p (places_at t m) ++ filter p (second_of (nat_eq m n) (places_at t n)))
    → let k = if a then m else (if b then n else (if x then n else m)) in
    let u = put_at ageing f t k in
    filter p (places_at u m) ++ filter p (second_of (nat_eq m n) (places_at u n)) ≡ f ∷ []
own_by R ageing f m n t true b x first second lt less lone =
    let p = is_of f.address in
    let here = lone_left R (filter p (places_at t m)) _ lone in
    let rest = rest_none R (filter p (places_at t m)) _ lone (any_some p (places_at t m) first) in
    own_first p m n t (place_for ageing f (places_at t m)) f (nat_eq m n) refl lt
    (own_bucket R ageing f (get_or t m no_sightings) here)
    (second_none p (nat_eq m n) (places_at t n) rest)
own_by R ageing f m n t false true x first second lt less lone =
    let p = is_of f.address in
    own_second p m n t (place_for ageing f (places_at t n)) f (nat_eq m n) refl less
    (own_bucket R ageing f (get_or t n no_sightings) (lone_second R p m n t (nat_eq m n) refl lone))
    (any_none p (places_at t m) first)
own_by R ageing f m n t false false true first second lt less lone =
    let p = is_of f.address in
    own_second p m n t (place_for ageing f (places_at t n)) f (nat_eq m n) refl less
    (own_bucket R ageing f (get_or t n no_sightings) (lone_second R p m n t (nat_eq m n) refl lone))
    (any_none p (places_at t m) first)
own_by R ageing f m n t false false false first second lt less lone =
    let p = is_of f.address in
    own_first p m n t (place_for ageing f (places_at t m)) f (nat_eq m n) refl lt
    (own_bucket R ageing f (get_or t m no_sightings) (lone_left R (filter p (places_at t m)) _ lone))
    (λ c. any_none p (places_at t n) second)
