-- Which sighting leaves its bucket, and what is forgotten.
use Rattle.std.proofs.Common.{◌≡◌, ◌≢◌, ℕ, zero, suc, ◌+◌, ◌<◌, ◌≤◌, ◌⊎◌, inl, inr, Bool, true, false, not, ◌&&◌, ◌||◌, nat_eq, if◌then◌else◌, List, [], ◌∷◌, ◌++◌, length, map, find, get_or, Option, Some, None, refl, sym, ap, subst, ◌∙◌, arith}
use Rattle.std.specs.Prelude.{option_map, unwrap_or}
use Rattle.std.proofs.lemmas.Bool.{and_parts, cases_eq, or_cases, eqb-true, eq-eqb, ne_eqb, ltb-true, ltb-false}
use Rattle.std.proofs.lemmas.List.Sums.{sum_by-cons}
use Rattle.etherparse.specs.Bytes.{bit}
use Rattle.ether_switch.specs.declared.forgetting.Forgotten.{Forgotten}
use Rattle.ether_switch.specs.declared.stations.Sighting.{Sighting}
use Rattle.ether_switch.specs.declared.stations.StationBucket.{StationBucket}
use Rattle.ether_switch.specs.declared.vlan_config.VlanConfig.{VlanConfig}
use Rattle.ether_switch.specs.Arrivals.{is_group, is_station}
use Rattle.ether_switch.specs.Laws.{PortsAreFair, ForgottenAreNotFound}
use Rattle.ether_switch.specs.Stations.{no_sighting, no_sightings, places, is_of, is_live, is_free, at_port, leaves_before, first_to_leave, leaving, first_place, first_bucket, second_bucket, has_part, places_at, is_forgotten, unless_forgotten, without}

-- ---- the place of the sighting that leaves

-- how many sightings are at the port of the one in a place
abbrev pub crowd : (all bucket : List Sighting) → ℕ → ℕ
crowd all bucket n = at_port (get_or bucket n no_sighting).port all

or_left : (a b : Bool) → (a || b) ≡ false → a ≡ false
or_left true b e = e
or_left false b e = refl

-- one of two places has a port with at least as many as the other
record Fuller (all bucket : List Sighting) (m n k : ℕ) : Type 0 where
  first : crowd all bucket m ≤ crowd all bucket k
  second : crowd all bucket n ≤ crowd all bucket k
  within : m < 4 → n < 4 → k < 4

fuller_choice : (all bucket : List Sighting) (m n : ℕ) (b : Bool)
    → leaves_before all (get_or bucket n no_sighting) (get_or bucket m no_sighting) ≡ b
    → Fuller all bucket m n (if b then n else m)
fuller_choice all bucket m n true is = record {
  first = elim (or_cases _ _ is) [
    | inl e ↦ let lt = ltb-true (crowd all bucket m) (crowd all bucket n) e in omega (arith, lt)
    | inr e ↦
        let same = eqb-true (crowd all bucket m) (crowd all bucket n) (and_parts _ _ e).0 in omega (arith, same)
  ];
  second = omega arith;
  within = λ x y. y;
}
fuller_choice all bucket m n false is = record {
  first = omega arith;
  second = ltb-false (crowd all bucket m) (crowd all bucket n) (or_left _ _ is);
  within = λ x y. x;
}

fuller : (all bucket : List Sighting) (m n : ℕ) → Fuller all bucket m n (first_to_leave all bucket m n)
fuller all bucket m n =
    fuller_choice all bucket m n (leaves_before all (get_or bucket n no_sighting) (get_or bucket m no_sighting)) refl

-- the port of the one that leaves has most
pub record Fullest (s : Sighting) (bucket : List Sighting) (k : ℕ) : Type 0 where
  pub one : crowd (s ∷ bucket) bucket 0 ≤ crowd (s ∷ bucket) bucket k
  pub two : crowd (s ∷ bucket) bucket 1 ≤ crowd (s ∷ bucket) bucket k
  pub three : crowd (s ∷ bucket) bucket 2 ≤ crowd (s ∷ bucket) bucket k
  pub four : crowd (s ∷ bucket) bucket 3 ≤ crowd (s ∷ bucket) bucket k
  pub within : k < 4

pub fullest : (s : Sighting) (bucket : List Sighting) → Fullest s bucket (leaving s bucket)
fullest s bucket =
    let all = s ∷ bucket in
    let a = first_to_leave all bucket 0 1 in
    let b = first_to_leave all bucket a 2 in
    let x = fuller all bucket 0 1 in
    let y = fuller all bucket a 2 in
    let z = fuller all bucket b 3 in
    record {
      one = omega (arith, x.first, y.first, z.first);
      two = omega (arith, x.second, y.first, z.first);
      three = omega (arith, y.second, z.first);
      four = z.second;
      within = z.within (y.within (x.within (omega arith) (omega arith)) (omega arith)) (omega arith);
    }

-- ---- the port of the one that leaves

bit_same : (n : ℕ) → bit (nat_eq n n) ≡ 1
bit_same n = ap bit (eq-eqb n n refl)

bit_other : (m n : ℕ) → m ≢ n → bit (nat_eq m n) ≡ 0
bit_other m n ne = ap bit (ne_eqb m n ne)

-- each sighting counts at its own port
counts : (b : StationBucket) (k : ℕ) → k < 4 → 1 ≤ crowd (places b) (places b) k
counts b zero lt = let one = bit_same b.first.port in omega (arith, one)
counts b (suc zero) lt = let one = bit_same b.second.port in omega (arith, one)
counts b (suc (suc zero)) lt = let one = bit_same b.third.port in omega (arith, one)
counts b (suc (suc (suc zero))) lt = let one = bit_same b.fourth.port in omega (arith, one)
counts b (suc (suc (suc (suc k)))) lt = absurd (omega (arith, lt))

-- at a port at which one of them is, there are as many as at the one that leaves, at most
most_at : (s : Sighting) (bucket : List Sighting) (k p : ℕ) → crowd (s ∷ bucket) bucket p ≤ crowd (s ∷ bucket) bucket k
    → (get_or bucket k no_sighting).port ≢ s.port → (get_or bucket p no_sighting).port ≡ s.port
    → at_port s.port bucket < at_port (get_or bucket k no_sighting).port bucket
most_at s bucket k p le ne same =
    let t = get_or bucket k no_sighting in
    let own = bit_same s.port in
    let other = bit_other s.port t.port (λ e. ne (sym e)) in
    let less : at_port s.port (s ∷ bucket) ≤ at_port t.port (s ∷ bucket) =
    subst (λ (n : ℕ). at_port n (s ∷ bucket) ≤ at_port t.port (s ∷ bucket)) same le in
    let mine : at_port s.port (s ∷ bucket) ≡ 1 + at_port s.port bucket =
    sum_by-cons (λ (x : Sighting). bit (nat_eq x.port s.port)) s bucket
    ∙ ap (λ (n : ℕ). n + at_port s.port bucket) own in
    let others : at_port t.port (s ∷ bucket) ≡ 0 + at_port t.port bucket =
    sum_by-cons (λ (x : Sighting). bit (nat_eq x.port t.port)) s bucket
    ∙ ap (λ (n : ℕ). n + at_port t.port bucket) other in
    omega (arith, mine, others, less)

-- at a port at which none of them is, there are none
none_at : (b : StationBucket) (port : ℕ) → b.first.port ≢ port → b.second.port ≢ port → b.third.port ≢ port
    → b.fourth.port ≢ port → at_port port (places b) ≡ 0
none_at b port one two three four =
    let a = bit_other b.first.port port one in
    let c = bit_other b.second.port port two in
    let d = bit_other b.third.port port three in
    let e = bit_other b.fourth.port port four in
    omega (arith, a, c, d, e)

fair_by : (s : Sighting) (b : StationBucket) (k : ℕ) → Fullest s (places b) k
    → (get_or (places b) k no_sighting).port ≢ s.port
    → at_port s.port (places b) < at_port (get_or (places b) k no_sighting).port (places b)
fair_by s b k f ne = elim (cases_eq b.first.port s.port) [
  | inl e ↦ most_at s (places b) k 0 f.one ne e
  | inr one ↦ elim (cases_eq b.second.port s.port) [
    | inl e ↦ most_at s (places b) k 1 f.two ne e
    | inr two ↦ elim (cases_eq b.third.port s.port) [
      | inl e ↦ most_at s (places b) k 2 f.three ne e
      | inr three ↦ elim (cases_eq b.fourth.port s.port) [
        | inl e ↦ most_at s (places b) k 3 f.four ne e
        | inr four ↦
            let none = none_at b s.port one two three four in
            let some = counts b k f.within in
            omega (arith, none, some)
      ]
    ]
  ]
]

-- ---- when it leaves

-- the place that is found passes
pub record IsPlace (test : Sighting → Bool) (l : List Sighting) (k : ℕ) : Type 0 where
  pub passes : test (get_or l k no_sighting) ≡ true
  pub within : k < length l

place_next : (test : Sighting → Bool) (x : Sighting) (l : List Sighting) (k : ℕ) (o : Option ℕ)
    → ((j : ℕ) → o ≡ Some j → IsPlace test l j) → option_map suc o ≡ Some k → IsPlace test (x ∷ l) k
place_next test x l k None rest e = absurd cc
place_next test x l k (Some j) rest e =
    let same : suc j ≡ k = cc in
    subst (IsPlace test (x ∷ l)) same
    (let r = rest j refl in record { passes = r.passes; within = omega (arith, r.within) })

place_choice : (test : Sighting → Bool) (x : Sighting) (l : List Sighting) (k : ℕ) (b : Bool) → test x ≡ b
    → ((j : ℕ) → first_place test l ≡ Some j → IsPlace test l j)
    → (if b then Some 0 else option_map suc (first_place test l)) ≡ Some k → IsPlace test (x ∷ l) k
place_choice test x l k true is rest e =
    let same : 0 ≡ k = cc in
    subst (IsPlace test (x ∷ l)) same (record { passes = is; within = omega arith })
place_choice test x l k false is rest e = place_next test x l k (first_place test l) rest e

pub is_place : (test : Sighting → Bool) (l : List Sighting) (k : ℕ) → first_place test l ≡ Some k → IsPlace test l k
is_place test [] k e = absurd cc
is_place test (x ∷ l) k e = place_choice test x l k (test x) refl (is_place test l) e

fair_place : (ageing : ℕ) (s : Sighting) (b : StationBucket) (o q : Option ℕ)
    → first_place (is_of s.address) (places b) ≡ o → first_place (is_free ageing s.time) (places b) ≡ q
    → let k = unwrap_or o (unwrap_or q (leaving s (places b))) in
    let t = get_or (places b) k no_sighting in
    is_live ageing s.time t ≡ true → is_of s.address t ≡ false
    → (t.port ≡ s.port) ⊎ (at_port s.port (places b) < at_port t.port (places b))
fair_place ageing s b (Some k) q own free live other =
    let p = is_place (is_of s.address) (places b) k own in
    let both : true ≡ false = sym p.passes ∙ other in absurd cc
fair_place ageing s b None (Some k) own free live other =
    let p = is_place (is_free ageing s.time) (places b) k free in
    let both : false ≡ true = sym (ap not live) ∙ p.passes in absurd cc
fair_place ageing s b None None own free live other =
    let k = leaving s (places b) in
    elim (cases_eq (get_or (places b) k no_sighting).port s.port) [
      | inl e ↦ inl e
      | inr ne ↦ inr (fair_by s b k (fullest s (places b)) ne)
    ]

pub ports_are_fair : PortsAreFair
ports_are_fair ageing s b live other =
    fair_place ageing s b (first_place (is_of s.address) (places b)) (first_place (is_free ageing s.time) (places b))
    refl refl live other

-- ---- what is forgotten

pub either_free : (b : Bool) → (if b then no_sighting else no_sighting) ≡ no_sighting
either_free true = refl
either_free false = refl

pub no_sightings_left : (which : Forgotten) → without which no_sightings ≡ no_sightings
no_sightings_left which =
    let free = either_free (is_forgotten which no_sighting) in
    λ i. record { first = free i; second = free i; third = free i; fourth = free i }

bucket_mapped : (which : Forgotten) (t : List StationBucket) (m : ℕ)
    → get_or (map (without which) t) m no_sightings ≡ without which (get_or t m no_sightings)
bucket_mapped which [] m = sym (no_sightings_left which)
bucket_mapped which (b ∷ t) zero = refl
bucket_mapped which (b ∷ t) (suc m) = bucket_mapped which t m

kept_choice : (which : Forgotten) (address : ℕ) (x s : Sighting) (rest : Option Sighting) (b : Bool)
    → address ≢ 0 → is_forgotten which x ≡ b → (rest ≡ Some s → is_forgotten which s ≡ false)
    → (if is_of address (if b then no_sighting else x) then Some (if b then no_sighting else x) else rest) ≡ Some s
    → is_forgotten which s ≡ false
kept_choice which address x s rest true some is later e =
    later (sym (ap (λ (c : Bool). if c then Some no_sighting else rest) (ne_eqb 0 address (λ z. some (sym z)))) ∙ e)
kept_choice which address x s rest false some is later e = found (is_of address x) e
  where
    found : (c : Bool) → (if c then Some x else rest) ≡ Some s → is_forgotten which s ≡ false
    found true e = let same : x ≡ s = cc in ap (is_forgotten which) (sym same) ∙ is
    found false e = later e

kept_found : (which : Forgotten) (address : ℕ) (s : Sighting) (l : List Sighting) → address ≢ 0
    → find (is_of address) (map (unless_forgotten which) l) ≡ Some s → is_forgotten which s ≡ false
kept_found which address s [] some e = absurd cc
kept_found which address s (x ∷ l) some e =
    kept_choice which address x s (find (is_of address) (map (unless_forgotten which) l)) (is_forgotten which x) some
    refl (kept_found which address s l some) e

not_found_choice : (key : List ℕ) (vlan : VlanConfig) (address : ℕ) (which : Forgotten) (t : List StationBucket)
    (s : Sighting) (b : Bool) → (b ≡ true → address ≢ 0)
    → let m = first_bucket key vlan address in
    let n = second_bucket key vlan address in
    let u = map (without which) t in
    (if b then find (is_of address) (places_at u m ++ places_at u n) else None) ≡ Some s
    → is_forgotten which s ≡ false
not_found_choice key vlan address which t s false some e = absurd cc
not_found_choice key vlan address which t s true some e =
    let m = first_bucket key vlan address in
    let n = second_bucket key vlan address in
    kept_found which address s (places_at t m ++ places_at t n) (some refl)
    ((λ i. find (is_of address) (places (sym (bucket_mapped which t m) i) ++ places (sym (bucket_mapped which t n) i)))
    ∙ e)

pub not_zero : (a : Bool) (address : ℕ) → (a && is_station address) ≡ true → address ≢ 0
not_zero a address e z =
    let is : nat_eq address 0 ≡ true = eq-eqb address 0 z in
    let station = (and_parts a (is_station address) e).1 in
    let some = (and_parts (not (is_group address)) (not (nat_eq address 0)) station).1 in
    let both : false ≡ true = sym (ap not is) ∙ some in cc

pub forgotten_are_not_found : ForgottenAreNotFound
forgotten_are_not_found key vlan address which table s e =
    let has = has_part (length (map (without which) table)) vlan in
    not_found_choice key vlan address which table s (has && is_station address) (not_zero has address) e
