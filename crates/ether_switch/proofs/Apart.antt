-- What is answered in a VLAN depends on that VLAN's part of the table alone.
use Rattle.std.proofs.Common.{◌≡◌, ◌≢◌, ℕ, zero, suc, ◌+◌, ◌-◌, ◌*◌, ◌/◌, ◌%◌, ◌^◌, ◌<◌, ◌≤◌, ◌⊎◌, inl, inr, Bool, true, false, not, ◌&&◌, nat_eq, nat_le, nat_lt, if◌then◌else◌, List, [], ◌∷◌, ◌++◌, length, filter, find, set, get_or, Option, None, is_none, Result, Ok, Err, refl, sym, ap, subst, ◌∙◌, arith, get_or-set_other, get_or-set_same}
use Rattle.std.specs.List.{list_any}
use Rattle.std.specs.Prelude.{option_and_then, MatchBool}
use Rattle.std.proofs.lemmas.Bool.{and_parts, cases_eq, cases_lt, or_cases, eqb-true, eq-eqb, leb-true, ltb-true}
use Rattle.std.proofs.lemmas.List.{length-set}
use Rattle.std.proofs.Math.Nat.{mul_comm, mul-lt-mul_of_pos_right}
use Rattle.std.proofs.lemmas.Nat.{div_below}
use Rattle.ether_switch.specs.declared.arrival.Arrived.{Arrived}
use Rattle.ether_switch.specs.declared.arrival.Discarded.{Discarded}
use Rattle.ether_switch.specs.declared.forgetting.Forgotten.{Forgotten}
use Rattle.ether_switch.specs.declared.stations.Sighting.{Sighting}
use Rattle.ether_switch.specs.declared.stations.StationBucket.{StationBucket}
use Rattle.ether_switch.specs.declared.vlan_config.VlanConfig.{VlanConfig}
use Rattle.ether_switch.specs.Arrivals.{Front, is_station}
use Rattle.ether_switch.specs.History.{Change, Came, Forgot, forgotten_in, changed, table_after, are_apart, is_vlan, is_in, HasOwnPart, KeepsPart, KeepPart}
use Rattle.ether_switch.specs.Laws.{VlansDoNotInterfere}
use Rattle.ether_switch.specs.Ports.{has}
use Rattle.ether_switch.specs.Relaying.{Event, answered, sighting, refused_in, arrival, arrival_vlan, vlan_in, after_arrival, after, answer_arrival}
use Rattle.ether_switch.specs.Stations.{no_sightings, places, with_place, is_of, is_live, count, place_for, hash_of, scaled, first_bucket, second_bucket, has_part, places_at, bucket_for, put_at, learned, sighting_of, port_at, without}
use Rattle.ether_switch.specs.Vlans.{row_of}
use Rattle.ether_switch.proofs.Fair.{no_sightings_left}
use Rattle.ether_switch.proofs.Mapped.{mapped_to}

-- ---- the buckets of a station are in its VLAN's part

scaled_within : (n half : ℕ) → 0 < n → half < 2 ^ 32 → scaled n half < n - n / 2
scaled_within n half some lt =
    let m : 0 < n - n / 2 = omega (arith, some) in
    div_below (half * (n - n / 2)) (2 ^ 32) (n - n / 2) (omega arith)
    (subst (λ (k : ℕ). half * (n - n / 2) < k) (mul_comm (2 ^ 32) (n - n / 2)) (mul-lt-mul_of_pos_right lt m))

-- an index in the part of a VLAN
pub record Within (vlan : VlanConfig) (i : ℕ) : Type 0 where
  pub least : vlan.first_bucket ≤ i
  pub most : i < vlan.first_bucket + vlan.buckets

pub first_within : (key : List ℕ) (vlan : VlanConfig) (address : ℕ) → 0 < vlan.buckets
    → Within vlan (first_bucket key vlan address)
first_within key vlan address some =
    let at = scaled_within vlan.buckets (hash_of key address % 2 ^ 32) some (omega arith) in
    record { least = omega arith; most = omega (arith, at, some) }

pub second_within : (key : List ℕ) (vlan : VlanConfig) (address : ℕ) → 0 < vlan.buckets
    → Within vlan (second_bucket key vlan address)
second_within key vlan address some =
    let at = scaled_within vlan.buckets (hash_of key address / 2 ^ 32 % 2 ^ 32) some (omega arith) in
    record { least = omega arith; most = omega (arith, at, some) }

chosen_within : (vlan : VlanConfig) (m n : ℕ) (a b c : Bool) → Within vlan m → Within vlan n
    → Within vlan (if a then m else (if b then n else (if c then n else m)))
chosen_within vlan m n true b c x y = x
chosen_within vlan m n false true c x y = y
chosen_within vlan m n false false true x y = y
chosen_within vlan m n false false false x y = x

-- the bucket for a sighting, among those of its VLAN
pub bucket_within : (key : List ℕ) (ageing : ℕ) (vlan : VlanConfig) (s : Sighting) (table : List StationBucket)
    → 0 < vlan.buckets
    → let m = first_bucket key vlan s.address in
    let n = second_bucket key vlan s.address in
    Within vlan (bucket_for ageing s (places_at table m) (places_at table n) m n)
bucket_within key ageing vlan s table some =
    let m = first_bucket key vlan s.address in
    let n = second_bucket key vlan s.address in
    chosen_within vlan m n (list_any (is_of s.address) (places_at table m))
    (list_any (is_of s.address) (places_at table n))
    (nat_lt (count (is_live ageing s.time) (places_at table n)) (count (is_live ageing s.time) (places_at table m)))
    (first_within key vlan s.address some) (second_within key vlan s.address some)

-- a table that has the part of a VLAN
pub has_part_is : (n : ℕ) (vlan : VlanConfig) → has_part n vlan ≡ true
    → (0 < vlan.buckets) × (vlan.first_bucket + vlan.buckets ≤ n)
has_part_is n vlan is = (
  ltb-true 0 vlan.buckets (and_parts (nat_lt 0 vlan.buckets) (nat_le (vlan.first_bucket + vlan.buckets) n) is).0,
  leb-true (vlan.first_bucket + vlan.buckets) n (and_parts (nat_lt 0 vlan.buckets) _ is).1,
)

-- ---- two tables with the same part

-- the same bucket at each index of the part of a VLAN
pub record Agree (vlan : VlanConfig) (one other : List StationBucket) : Type 0 where
  pub len : length one ≡ length other
  pub at : (i : ℕ) → Within vlan i → get_or one i no_sightings ≡ get_or other i no_sightings

pub agree_refl : (vlan : VlanConfig) (t : List StationBucket) → Agree vlan t t
agree_refl vlan t = record { len = refl; at = λ i in_part. refl }

agree_sym : (vlan : VlanConfig) (t u : List StationBucket) → Agree vlan t u → Agree vlan u t
agree_sym vlan t u a = record { len = sym a.len; at = λ i in_part. sym (a.at i in_part) }

agree_trans : (vlan : VlanConfig) (t u w : List StationBucket) → Agree vlan t u → Agree vlan u w → Agree vlan t w
agree_trans vlan t u w a b =
    record { len = a.len ∙ b.len; at = λ i in_part. a.at i in_part ∙ b.at i in_part }

-- one bucket is set in both
agree_set : (vlan : VlanConfig) (t u : List StationBucket) (k : ℕ) (b c : StationBucket) → Agree vlan t u → b ≡ c
    → k < length t → Agree vlan (set t k b) (set u k c)
agree_set vlan t u k b c a same lt = record {
  len = length-set t k b ∙ a.len ∙ sym (length-set u k c);
  at = λ i in_part. elim (cases_eq i k) [
    | inl e ↦
        let less : k < length u = subst (λ (n : ℕ). k < n) a.len lt in
        ap (λ (j : ℕ). get_or (set t k b) j no_sightings) e ∙ get_or-set_same t k b no_sightings lt ∙ same
        ∙ sym (ap (λ (j : ℕ). get_or (set u k c) j no_sightings) e ∙ get_or-set_same u k c no_sightings less)
    | inr ne ↦
        get_or-set_other t k i b no_sightings ne ∙ a.at i in_part ∙ sym (get_or-set_other u k i c no_sightings ne)
  ];
}

-- .. outside of the part, in one of them
agree_outside : (vlan : VlanConfig) (t u : List StationBucket) (k : ℕ) (b : StationBucket) → Agree vlan t u
    → (Within vlan k → ⊥) → Agree vlan (set t k b) u
agree_outside vlan t u k b a out = record {
  len = length-set t k b ∙ a.len;
  at = λ i in_part.
      let ne : i ≢ k = λ e. out (subst (Within vlan) e in_part) in
      get_or-set_other t k i b no_sightings ne ∙ a.at i in_part;
}

-- ---- a frame of the VLAN

put_agrees : (key : List ℕ) (ageing : ℕ) (vlan row : VlanConfig) (s : Sighting) (t u : List StationBucket)
    → row.first_bucket ≡ vlan.first_bucket → row.buckets ≡ vlan.buckets
    → Agree vlan t u → has_part (length t) row ≡ true
    → let m = first_bucket key row s.address in
    let n = second_bucket key row s.address in
    Agree vlan (put_at ageing s t (bucket_for ageing s (places_at t m) (places_at t n) m n))
    (put_at ageing s u (bucket_for ageing s (places_at u m) (places_at u n) m n))
put_agrees key ageing vlan row s t u first len a is =
    let m = first_bucket key row s.address in
    let n = second_bucket key row s.address in
    let has = has_part_is (length t) row is in
    let in_part : (i : ℕ) → Within row i → Within vlan i =
    λ i w. record { least = omega (arith, first, w.least); most = omega (arith, first, len, w.most) } in
    let same_m = ap places (a.at m (in_part m (first_within key row s.address has.0))) in
    let same_n = ap places (a.at n (in_part n (second_within key row s.address has.0))) in
    let k = bucket_for ageing s (places_at t m) (places_at t n) m n in
    let same_k : k ≡ bucket_for ageing s (places_at u m) (places_at u n) m n =
    λ i. bucket_for ageing s (same_m i) (same_n i) m n in
    let w = bucket_within key ageing row s t has.0 in
    let lt : k < length t = omega (arith, w.most, has.1) in
    let bucket : (b : StationBucket) → StationBucket = λ b. with_place (place_for ageing s (places b)) s b in
    subst (λ (j : ℕ). Agree vlan (put_at ageing s t k) (put_at ageing s u j)) same_k
    (agree_set vlan t u k (bucket (get_or t k no_sightings)) (bucket (get_or u k no_sightings)) a
    (ap bucket (a.at k (in_part k w))) lt)

learned_by : (key : List ℕ) (ageing : ℕ) (vlan row : VlanConfig) (s : Sighting) (t u : List StationBucket) (b c : Bool)
    → row.first_bucket ≡ vlan.first_bucket → row.buckets ≡ vlan.buckets → Agree vlan t u
    → has_part (length t) row ≡ b → has_part (length u) row ≡ c
    → let m = first_bucket key row s.address in
    let n = second_bucket key row s.address in
    Agree vlan (if b then put_at ageing s t (bucket_for ageing s (places_at t m) (places_at t n) m n) else t)
    (if c then put_at ageing s u (bucket_for ageing s (places_at u m) (places_at u n) m n) else u)
learned_by key ageing vlan row s t u true true first len a is also = put_agrees key ageing vlan row s t u first len a is
learned_by key ageing vlan row s t u false false first len a is also = a
learned_by key ageing vlan row s t u true false first len a is also =
    let both : true ≡ false = sym is ∙ ap (λ (n : ℕ). has_part n row) a.len ∙ also in absurd cc
learned_by key ageing vlan row s t u false true first len a is also =
    let both : false ≡ true = sym is ∙ ap (λ (n : ℕ). has_part n row) a.len ∙ also in absurd cc

learned_agrees : (key : List ℕ) (ageing : ℕ) (vlan row : VlanConfig) (s : Sighting) (t u : List StationBucket)
    → row.first_bucket ≡ vlan.first_bucket → row.buckets ≡ vlan.buckets → Agree vlan t u
    → Agree vlan (learned key ageing row s t) (learned key ageing row s u)
learned_agrees key ageing vlan row s t u first len a =
    learned_by key ageing vlan row s t u (has_part (length t) row) (has_part (length u) row) first len a refl refl

-- ---- a frame of another VLAN

-- parts that are apart: one has no buckets, or they follow one another
pub apart_cases : (first m other n : ℕ) → are_apart first m other n ≡ true
    → (m ≡ 0) ⊎ ((n ≡ 0) ⊎ ((first + m ≤ other) ⊎ (other + n ≤ first)))
apart_cases first m other n apart = elim (or_cases (nat_eq m 0) _ apart) [
  | inl e ↦ inl (eqb-true m 0 e)
  | inr more ↦ elim (or_cases (nat_eq n 0) _ more) [
    | inl e ↦ inr (inl (eqb-true n 0 e))
    | inr rest ↦ elim (or_cases (nat_le (first + m) other) _ rest) [
      | inl e ↦ inr (inr (inl (leb-true (first + m) other e)))
      | inr e ↦ inr (inr (inr (leb-true (other + n) first e)))
    ]
  ]
]

learned_apart : (key : List ℕ) (ageing : ℕ) (vlan row : VlanConfig) (s : Sighting) (t u : List StationBucket) (b : Bool)
    → are_apart vlan.first_bucket vlan.buckets row.first_bucket row.buckets ≡ true → Agree vlan t u
    → has_part (length t) row ≡ b
    → let m = first_bucket key row s.address in
    let n = second_bucket key row s.address in
    Agree vlan (if b then put_at ageing s t (bucket_for ageing s (places_at t m) (places_at t n) m n) else t) u
learned_apart key ageing vlan row s t u false apart a is = a
learned_apart key ageing vlan row s t u true apart a is =
    let has = has_part_is (length t) row is in
    let w = bucket_within key ageing row s t has.0 in
    agree_outside vlan t u _ _ a (λ v. never_both vlan row _ apart v w)
  where
    never_both : (vlan row : VlanConfig) (k : ℕ)
        → are_apart vlan.first_bucket vlan.buckets row.first_bucket row.buckets ≡ true
        → Within vlan k → Within row k → ⊥
    never_both vlan row k apart v w = elim (apart_cases vlan.first_bucket vlan.buckets _ _ apart) [
      | inl none ↦ omega (arith, none, v.least, v.most)
      | inr some ↦ elim some [
        | inl none ↦ omega (arith, none, w.least, w.most)
        | inr one ↦ elim one [
          | inl le ↦ omega (arith, le, v.most, w.least)
          | inr le ↦ omega (arith, le, w.most, v.least)
        ]
      ]
    ]

-- ---- stations are forgotten

emptied : (which : Forgotten) (n i : ℕ)
    → get_or (mapped_to (without which) n []) i no_sightings ≡ no_sightings
emptied which zero i = refl
emptied which (suc n) i = refl

mapped_in : (which : Forgotten) (n i : ℕ) (t : List StationBucket) → i < n
    → get_or (mapped_to (without which) n t) i no_sightings ≡ without which (get_or t i no_sightings)
mapped_in which zero i t lt = absurd (omega (arith, lt))
mapped_in which (suc n) i [] lt = sym (no_sightings_left which)
mapped_in which (suc n) zero (b ∷ t) lt = refl
mapped_in which (suc n) (suc i) (b ∷ t) lt = mapped_in which n i t (omega (arith, lt))

mapped_out : (which : Forgotten) (n i : ℕ) (t : List StationBucket) → n ≤ i
    → get_or (mapped_to (without which) n t) i no_sightings ≡ get_or t i no_sightings
mapped_out which zero i t le = refl
mapped_out which (suc n) i [] le = refl
mapped_out which (suc n) zero (b ∷ t) le = absurd (omega (arith, le))
mapped_out which (suc n) (suc i) (b ∷ t) le = mapped_out which n i t (omega (arith, le))

pub forgotten_there : (first n i : ℕ) (which : Forgotten) (t : List StationBucket) → first ≤ i → i < first + n
    → get_or (forgotten_in first n which t) i no_sightings ≡ without which (get_or t i no_sightings)
forgotten_there zero n i which t le lt = mapped_in which n i t (omega (arith, lt))
forgotten_there (suc first) n i which [] le lt = emptied which n i ∙ sym (no_sightings_left which)
forgotten_there (suc first) n zero which (b ∷ t) le lt = absurd (omega (arith, le))
forgotten_there (suc first) n (suc i) which (b ∷ t) le lt =
    forgotten_there first n i which t (omega (arith, le)) (omega (arith, lt))

pub forgotten_elsewhere : (first n i : ℕ) (which : Forgotten) (t : List StationBucket) → (i < first) ⊎ (first + n ≤ i)
    → get_or (forgotten_in first n which t) i no_sightings ≡ get_or t i no_sightings
forgotten_elsewhere zero n i which t (inl lt) = absurd (omega (arith, lt))
forgotten_elsewhere zero n i which t (inr le) = mapped_out which n i t (omega (arith, le))
forgotten_elsewhere (suc first) n i which [] out = emptied which n i
forgotten_elsewhere (suc first) n zero which (b ∷ t) out = refl
forgotten_elsewhere (suc first) n (suc i) which (b ∷ t) (inl lt) =
    forgotten_elsewhere first n i which t (inl (omega (arith, lt)))
forgotten_elsewhere (suc first) n (suc i) which (b ∷ t) (inr le) =
    forgotten_elsewhere first n i which t (inr (omega (arith, le)))

mapped_len : (which : Forgotten) (n : ℕ) (t : List StationBucket) → length (mapped_to (without which) n t) ≡ length t
mapped_len which zero t = refl
mapped_len which (suc n) [] = refl
mapped_len which (suc n) (b ∷ t) = ap suc (mapped_len which n t)

pub forgotten_len : (first n : ℕ) (which : Forgotten) (t : List StationBucket)
    → length (forgotten_in first n which t) ≡ length t
forgotten_len zero n which t = mapped_len which n t
forgotten_len (suc first) n which [] = mapped_len which n []
forgotten_len (suc first) n which (b ∷ t) = ap suc (forgotten_len first n which t)

forgotten_agrees : (vlan : VlanConfig) (first n : ℕ) (which : Forgotten) (t u : List StationBucket) → Agree vlan t u
    → Agree vlan (forgotten_in first n which t) (forgotten_in first n which u)
forgotten_agrees vlan first n which t u a = record {
  len = forgotten_len first n which t ∙ a.len ∙ sym (forgotten_len first n which u);
  at = λ i w. elim (cases_lt i first) [
    | inl lt ↦ out i w (inl lt)
    | inr le ↦ elim (cases_lt i (first + n)) [
      | inl lt ↦
          forgotten_there first n i which t le lt ∙ ap (without which) (a.at i w)
          ∙ sym (forgotten_there first n i which u le lt)
      | inr more ↦ out i w (inr more)
    ]
  ];
}
  where
    out : (i : ℕ) → Within vlan i → (i < first) ⊎ (first + n ≤ i)
        → get_or (forgotten_in first n which t) i no_sightings ≡ get_or (forgotten_in first n which u) i no_sightings
    out i w o =
        forgotten_elsewhere first n i which t o ∙ a.at i w ∙ sym (forgotten_elsewhere first n i which u o)

pub not_true : (b : Bool) → not b ≡ false → b ≡ true
not_true true e = refl
not_true false e = sym e

forgotten_apart : (vlan : VlanConfig) (first n : ℕ) (which : Forgotten) (t u : List StationBucket) → Agree vlan t u
    → are_apart vlan.first_bucket vlan.buckets first n ≡ true → Agree vlan (forgotten_in first n which t) u
forgotten_apart vlan first n which t u a apart = record {
  len = forgotten_len first n which t ∙ a.len;
  at = λ i w. forgotten_elsewhere first n i which t
      (out i w (apart_cases vlan.first_bucket vlan.buckets first n apart)) ∙ a.at i w;
}
  where
    out : (i : ℕ) → Within vlan i
        → (vlan.buckets ≡ 0)
        ⊎ ((n ≡ 0) ⊎ ((vlan.first_bucket + vlan.buckets ≤ first) ⊎ (first + n ≤ vlan.first_bucket)))
        → (i < first) ⊎ (first + n ≤ i)
    out i w (inl none) = absurd (omega (arith, none, w.least, w.most))
    out i w (inr (inl none)) = elim (cases_lt i first) [
      | inl lt ↦ inl lt
      | inr le ↦ inr (omega (arith, none, le))
    ]
    out i w (inr (inr (inl le))) = inl (omega (arith, le, w.most))
    out i w (inr (inr (inr le))) = inr (omega (arith, le, w.least))

-- ---- a frame

pub when_true : (b : Bool) (P Q : Type 0) → b ≡ true → MatchBool b P Q → P
when_true true P Q is m = m
when_true false P Q is m = absurd cc

when_false : (b : Bool) (P Q : Type 0) → b ≡ false → MatchBool b P Q → Q
when_false true P Q is m = absurd cc
when_false false P Q is m = m

taught_choice : (vlan : VlanConfig) (b : Bool) (t u l k : List StationBucket) → Agree vlan t u → Agree vlan l k
    → Agree vlan (if b then l else t) (if b then k else u)
taught_choice vlan true t u l k a also = also
taught_choice vlan false t u l k a also = a

taught_apart : (vlan : VlanConfig) (b : Bool) (t u l : List StationBucket) → Agree vlan t u → Agree vlan l u
    → Agree vlan (if b then l else t) u
taught_apart vlan true t u l a also = also
taught_apart vlan false t u l a also = a

came_in : (vid : ℕ) (vlan : VlanConfig) (v : Event) (x : Result (Front × Arrived) Discarded)
    (t u : List StationBucket)
    → HasOwnPart vid vlan v.settings.vlans → is_vlan vid (vlan_in x) ≡ true → Agree vlan t u
    → Agree vlan (after_arrival v x t) (after_arrival v x u)
came_in vid vlan v (Err reason) t u own is a = absurd cc
came_in vid vlan v (Ok x) t u own is a =
    let row = row_of v.settings.vlans x.1.vlan in
    let same = when_true (nat_eq x.1.vlan vid) _ _ is (own x.1.vlan) in
    taught_choice vlan (is_none (refused_in v x.0 x.1) && has v.settings.ports.learning v.from) t u _ _ a
    (learned_agrees v.settings.key v.settings.ageing_time vlan row (sighting v.now v.from x.1) t u same.0 same.1 a)

pub came_elsewhere : (vid : ℕ) (vlan : VlanConfig) (v : Event) (x : Result (Front × Arrived) Discarded)
    (t u : List StationBucket)
    → HasOwnPart vid vlan v.settings.vlans → is_vlan vid (vlan_in x) ≡ false → Agree vlan t u
    → Agree vlan (after_arrival v x t) u
came_elsewhere vid vlan v (Err reason) t u own is a = a
came_elsewhere vid vlan v (Ok x) t u own is a =
    let row = row_of v.settings.vlans x.1.vlan in
    let apart = when_false (nat_eq x.1.vlan vid) _ _ is (own x.1.vlan) in
    taught_apart vlan (is_none (refused_in v x.0 x.1) && has v.settings.ports.learning v.from) t u _ a
    (learned_apart v.settings.key v.settings.ageing_time vlan row (sighting v.now v.from x.1) t u
    (has_part (length t) row) apart a refl)

-- ---- histories

changed_agrees : (vid : ℕ) (vlan : VlanConfig) (c : Change) (t u : List StationBucket) → KeepsPart vid vlan c
    → is_in vid vlan c ≡ true → Agree vlan t u → Agree vlan (changed c t) (changed c u)
changed_agrees vid vlan (Came v) t u own is a = came_in vid vlan v (arrival v) t u own is a
changed_agrees vid vlan (Forgot first n which) t u own is a = forgotten_agrees vlan first n which t u a

changed_elsewhere : (vid : ℕ) (vlan : VlanConfig) (c : Change) (t u : List StationBucket) → KeepsPart vid vlan c
    → is_in vid vlan c ≡ false → Agree vlan t u → Agree vlan (changed c t) u
changed_elsewhere vid vlan (Came v) t u own is a = came_elsewhere vid vlan v (arrival v) t u own is a
changed_elsewhere vid vlan (Forgot first n which) t u own is a =
    forgotten_apart vlan first n which t u a (not_true (are_apart vlan.first_bucket vlan.buckets first n) is)

stripped : (vid : ℕ) (vlan : VlanConfig) (c : Change) (es : List Change) (table t : List StationBucket) (b : Bool)
    → KeepsPart vid vlan c → is_in vid vlan c ≡ b → Agree vlan t (table_after es table)
    → Agree vlan (changed c t) (table_after (if b then c ∷ es else es) table)
stripped vid vlan c es table t true own is a = changed_agrees vid vlan c t (table_after es table) own is a
stripped vid vlan c es table t false own is a = changed_elsewhere vid vlan c t (table_after es table) own is a

-- the changes of other VLANs leave the part as it is
own_changes : (vid : ℕ) (vlan : VlanConfig) (changes : List Change) (table : List StationBucket)
    → KeepPart vid vlan changes
    → Agree vlan (table_after changes table) (table_after (filter (is_in vid vlan) changes) table)
own_changes vid vlan [] table own = agree_refl vlan table
own_changes vid vlan (c ∷ earlier) table own =
    stripped vid vlan c (filter (is_in vid vlan) earlier) table (table_after earlier table) (is_in vid vlan c) own.0
    refl
    (own_changes vid vlan earlier table own.1)

-- ---- what is answered

found_choice : (key : List ℕ) (vlan row : VlanConfig) (address : ℕ) (t u : List StationBucket) (b : Bool)
    → row.first_bucket ≡ vlan.first_bucket → row.buckets ≡ vlan.buckets → Agree vlan t u
    → (has_part (length t) row && is_station address) ≡ b
    → let m = first_bucket key row address in
    let n = second_bucket key row address in
    (if b then find (is_of address) (places_at t m ++ places_at t n) else None)
    ≡ (if b then find (is_of address) (places_at u m ++ places_at u n) else None)
found_choice key vlan row address t u false first len a is = refl
found_choice key vlan row address t u true first len a is =
    let has = has_part_is (length t) row (and_parts (has_part (length t) row) (is_station address) is).0 in
    let in_part : (i : ℕ) → Within row i → Within vlan i =
    λ i w. record { least = omega (arith, first, w.least); most = omega (arith, first, len, w.most) } in
    let m = a.at (first_bucket key row address) (in_part _ (first_within key row address has.0)) in
    let n = a.at (second_bucket key row address) (in_part _ (second_within key row address has.0)) in
    λ i. find (is_of address) (places (m i) ++ places (n i))

found_same : (key : List ℕ) (vlan row : VlanConfig) (address : ℕ) (t u : List StationBucket)
    → row.first_bucket ≡ vlan.first_bucket → row.buckets ≡ vlan.buckets → Agree vlan t u
    → sighting_of key row address t ≡ sighting_of key row address u
found_same key vlan row address t u first len a =
    let m = first_bucket key row address in
    let n = second_bucket key row address in
    found_choice key vlan row address t u (has_part (length t) row && is_station address) first len a refl
    ∙ ap (λ (k : ℕ).
    if has_part k row && is_station address then find (is_of address) (places_at u m ++ places_at u n) else None) a.len

answered_same : (vid : ℕ) (vlan : VlanConfig) (v : Event) (x : Result (Front × Arrived) Discarded)
    (t u : List StationBucket)
    → HasOwnPart vid vlan v.settings.vlans → is_vlan vid (vlan_in x) ≡ true → Agree vlan t u
    → answer_arrival v x t ≡ answer_arrival v x u
answered_same vid vlan v (Err reason) t u own is a = absurd cc
answered_same vid vlan v (Ok x) t u own is a =
    let s = v.settings in
    let row = row_of s.vlans x.1.vlan in
    let same = when_true (nat_eq x.1.vlan vid) _ _ is (own x.1.vlan) in
    ap (λ (o : Option Sighting).
    answered s v.from (refused_in v x.0 x.1) x.1 (option_and_then (port_at s.ageing_time v.now) o))
    (found_same s.key vlan row x.1.destination t u same.0 same.1 a)

pub vlans_do_not_interfere : VlansDoNotInterfere
vlans_do_not_interfere vid vlan one other table v own also same is =
    let t = table_after one table in
    let u = table_after other table in
    let a : Agree vlan t u =
    agree_trans vlan t (table_after (filter (is_in vid vlan) one) table) u (own_changes vid vlan one table own.1)
    (subst (λ (l : List Change). Agree vlan (table_after l table) u) (sym same)
    (agree_sym vlan u (table_after (filter (is_in vid vlan) other) table) (own_changes vid vlan other table also.1))) in
    let here : is_vlan vid (arrival_vlan v) ≡ true = ap (is_vlan vid) is ∙ eq-eqb vid vid refl in
    answered_same vid vlan v (arrival v) (after v t) (after v u) own.0 here
    (came_in vid vlan v (arrival v) t u own.0 here a)
