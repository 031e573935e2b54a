-- What a table has of a station is its last sighting.
use Rattle.std.proofs.Common.{◌≡◌, ◌≢◌, ℕ, zero, suc, ◌+◌, ◌-◌, ◌<◌, ◌≤◌, ◌⊎◌, inl, inr, Bool, true, false, ◌&&◌, ◌||◌, nat_eq, nat_le, nat_lt, if◌then◌else◌, List, [], ◌∷◌, ◌++◌, length, map, replicate, filter, find, set, get_or, Option, Some, None, Result, Ok, Err, refl, sym, ap, subst, ◌∙◌, arith}
use Rattle.std.specs.Prelude.{option_and_then}
use Rattle.std.specs.List.{list_any}
use Rattle.std.proofs.lemmas.Bool.{and_parts, cases_eq, cases_lt, eqb-true, eq-eqb, ne_eqb, leb-true}
use Rattle.std.proofs.lemmas.List.{length-set}
use Rattle.std.proofs.lemmas.List.Elements.{filter-append}
use Rattle.ether_switch.specs.declared.arrival.Arrived.{Arrived}
use Rattle.ether_switch.specs.declared.arrival.Discarded.{Discarded}
use Rattle.ether_switch.specs.declared.forgetting.Forgotten.{Forgotten}
use Rattle.ether_switch.specs.declared.stations.Sighting.{Sighting}
use Rattle.ether_switch.specs.declared.stations.StationBucket.{StationBucket}
use Rattle.ether_switch.specs.declared.vlan_config.VlanConfig.{VlanConfig}
use Rattle.ether_switch.specs.Arrivals.{Front, is_station}
use Rattle.ether_switch.specs.History.{Change, Came, Forgot, forgotten_in, changed, table_after, HasOwnPart, KeepsPart, KeepPart, seen_with, seen, HasKey, HaveKey}
use Rattle.ether_switch.specs.Laws.{LastSightingsAreFound, FramesFollowStations}
use Rattle.ether_switch.specs.Relaying.{Settings, Event, sighting, teaches, refused_in, arrival, vlan_in, after_arrival}
use Rattle.ether_switch.specs.Stations.{no_sighting, no_sightings, places, is_of, is_live, count, place_for, first_bucket, second_bucket, has_part, places_at, bucket_for, put_at, learned, sighting_of, port_at, is_forgotten, unless_forgotten}
use Rattle.ether_switch.specs.Vlans.{row_of}
use Rattle.ether_switch.proofs.Apart.{Within, Agree, agree_refl, came_elsewhere, forgotten_there, forgotten_elsewhere, forgotten_len, first_within, second_within, has_part_is, bucket_within, when_true}
use Rattle.ether_switch.proofs.Lone.{Lone, Narrow, same, narrowed, narrow_cons, second_of, in_both, put, put_narrow, both_narrow, own_by, any_none, place_within}
use Rattle.ether_switch.proofs.Fair.{not_zero}

-- ---- what the table has of a station

-- none, or its last sighting
abbrev Last : (address : ℕ) → List Sighting → Sighting → Type 0
Last address history g = find (is_of address) history ≡ Some g

abbrev Holds : (key : List ℕ) → VlanConfig → (address : ℕ) → List Sighting → List StationBucket → Type 0
Holds key vlan address history t =
    Lone (Last address history)
    (filter (is_of address) (in_both (first_bucket key vlan address) (second_bucket key vlan address) t))

lone_map : (R S : Sighting → Type 0) (l : List Sighting) → ((g : Sighting) → R g → S g) → Lone R l → Lone S l
lone_map R S l f (inl none) = inl none
lone_map R S l f (inr one) = inr (one.0, one.1, f one.0 one.2)

-- a sighting in the VLAN
put_is : (key : List ℕ) (ageing : ℕ) (vlan : VlanConfig) (f : Sighting) (t : List StationBucket)
    → has_part (length t) vlan ≡ true
    → let m = first_bucket key vlan f.address in
    let n = second_bucket key vlan f.address in
    learned key ageing vlan f t ≡ put_at ageing f t (bucket_for ageing f (places_at t m) (places_at t n) m n)
put_is key ageing vlan f t is =
    let m = first_bucket key vlan f.address in
    let n = second_bucket key vlan f.address in
    ap (λ (b : Bool). if b then put_at ageing f t (bucket_for ageing f (places_at t m) (places_at t n) m n) else t) is

within_table : (vlan : VlanConfig) (n i : ℕ) → has_part n vlan ≡ true → Within vlan i → i < n
within_table vlan n i is w = let has = has_part_is n vlan is in omega (arith, has.1, w.most)

holds_own : (key : List ℕ) (ageing : ℕ) (vlan : VlanConfig) (f : Sighting) (history : List Sighting)
    (t : List StationBucket)
    → has_part (length t) vlan ≡ true → Holds key vlan f.address history t
    → Holds key vlan f.address (f ∷ history) (learned key ageing vlan f t)
holds_own key ageing vlan f history t is holds =
    let p = is_of f.address in
    let m = first_bucket key vlan f.address in
    let n = second_bucket key vlan f.address in
    let some = (has_part_is (length t) vlan is).0 in
    let u = put_at ageing f t (bucket_for ageing f (places_at t m) (places_at t n) m n) in
    let lone = subst (Lone (Last f.address history))
    (filter-append p (places_at t m) (second_of (nat_eq m n) (places_at t n))) holds in
    let one = own_by (Last f.address history) ageing f m n t (list_any p (places_at t m)) (list_any p (places_at t n))
    (nat_lt (count (is_live ageing f.time) (places_at t n)) (count (is_live ageing f.time) (places_at t m)))
    refl refl (within_table vlan (length t) m is (first_within key vlan f.address some))
    (within_table vlan (length t) n is (second_within key vlan f.address some)) lone in
    let found : Last f.address (f ∷ history) f =
    ap (λ (b : Bool). if b then Some f else find p history) (eq-eqb f.address f.address refl) in
    subst (λ (l : List StationBucket). Holds key vlan f.address (f ∷ history) l) (sym (put_is key ageing vlan f t is))
    (inr (f, filter-append p (places_at u m) (second_of (nat_eq m n) (places_at u n)) ∙ one, found))

holds_other : (key : List ℕ) (ageing : ℕ) (vlan : VlanConfig) (address : ℕ) (f : Sighting) (history : List Sighting)
    (t : List StationBucket)
    → f.address ≢ address → has_part (length t) vlan ≡ true → Holds key vlan address history t
    → Holds key vlan address (f ∷ history) (learned key ageing vlan f t)
holds_other key ageing vlan address f history t ne is holds =
    let p = is_of address in
    let m = first_bucket key vlan address in
    let n = second_bucket key vlan address in
    let some = (has_part_is (length t) vlan is).0 in
    let not_of : p f ≡ false = ne_eqb f.address address ne in
    let own = first_bucket key vlan f.address in
    let also = second_bucket key vlan f.address in
    let k = bucket_for ageing f (places_at t own) (places_at t also) own also in
    let j = place_for ageing f (places_at t k) in
    let lt = within_table vlan (length t) k is (bucket_within key ageing vlan f t some) in
    let few = place_within ageing f (get_or t k no_sightings) in
    let narrow = both_narrow p m n t (put t k j f) (put_narrow p t k j m f not_of lt few)
    (put_narrow p t k j n f not_of lt few) in
    subst (λ (l : List StationBucket). Holds key vlan address (f ∷ history) l) (sym (put_is key ageing vlan f t is))
    (lone_map (Last address history) (Last address (f ∷ history)) _
    (λ g last. ap (λ (b : Bool). if b then Some f else find p history) not_of ∙ last)
    (narrowed (Last address history) _ _ holds narrow))

holds_more : (key : List ℕ) (ageing : ℕ) (vlan : VlanConfig) (address : ℕ) (f : Sighting) (history : List Sighting)
    (t : List StationBucket)
    → has_part (length t) vlan ≡ true → Holds key vlan address history t
    → Holds key vlan address (f ∷ history) (learned key ageing vlan f t)
holds_more key ageing vlan address f history t is holds = elim (cases_eq f.address address) [
  | inl e ↦
      subst (λ (a : ℕ). Holds key vlan a (f ∷ history) (learned key ageing vlan f t)) e
      (holds_own key ageing vlan f history t is (subst (λ (a : ℕ). Holds key vlan a history t) (sym e) holds))
  | inr ne ↦ holds_other key ageing vlan address f history t ne is holds
]

-- ---- a change

holds_agreed : (key : List ℕ) (vlan : VlanConfig) (address : ℕ) (history : List Sighting) (t u : List StationBucket)
    → has_part (length t) vlan ≡ true → Agree vlan u t → Holds key vlan address history t
    → Holds key vlan address history u
holds_agreed key vlan address history t u is a holds =
    let some = (has_part_is (length t) vlan is).0 in
    let m = a.at (first_bucket key vlan address) (first_within key vlan address some) in
    let n = a.at (second_bucket key vlan address) (second_within key vlan address some) in
    let c = nat_eq (first_bucket key vlan address) (second_bucket key vlan address) in
    let both : filter (is_of address) (places_at t (first_bucket key vlan address)
    ++ second_of c (places_at t (second_bucket key vlan address)))
    ≡ filter (is_of address) (places_at u (first_bucket key vlan address)
    ++ second_of c (places_at u (second_bucket key vlan address))) =
    λ i. filter (is_of address) (places (sym m i) ++ second_of c (places (sym n i))) in
    subst (Lone (Last address history)) both holds

same_some : (m n : ℕ) → m ≡ n → Some m ≡ Some n
same_some m n e = ap Some e

taught_holds : (key : List ℕ) (vlan : VlanConfig) (address : ℕ) (history : List Sighting) (t : List StationBucket)
    (s : Settings) (row : VlanConfig) (f : Sighting) (c : Bool)
    → s.key ≡ key → row.first_bucket ≡ vlan.first_bucket → row.buckets ≡ vlan.buckets
    → has_part (length t) vlan ≡ true → Holds key vlan address history t
    → Holds key vlan address (if c then f ∷ history else history)
    (if c then learned s.key s.ageing_time row f t else t)
taught_holds key vlan address history t s row f true is first len part holds =
    let same : learned key s.ageing_time vlan f t ≡ learned s.key s.ageing_time row f t =
    λ i. learned (sym is i) s.ageing_time (record row { first_bucket = sym first i; buckets = sym len i }) f t in
    subst (λ (l : List StationBucket). Holds key vlan address (f ∷ history) l) same
    (holds_more key s.ageing_time vlan address f history t part holds)
taught_holds key vlan address history t s row f false is first len part holds = holds

came_holds : (key : List ℕ) (vid : ℕ) (vlan : VlanConfig) (address : ℕ) (v : Event)
    (x : Result (Front × Arrived) Discarded) (history : List Sighting) (t : List StationBucket)
    → HasOwnPart vid vlan v.settings.vlans → (vlan_in x ≡ Some vid → v.settings.key ≡ key)
    → has_part (length t) vlan ≡ true → Holds key vlan address history t
    → Holds key vlan address (seen_with vid v x history) (after_arrival v x t)
came_holds key vid vlan address v (Err reason) history t own has_key part holds = holds
came_holds key vid vlan address v (Ok x) history t own has_key part holds = choice (nat_eq x.1.vlan vid) refl
  where
    choice : (b : Bool) → nat_eq x.1.vlan vid ≡ b
        → Holds key vlan address (if b && teaches v.settings v.from (refused_in v x.0 x.1)
        then sighting v.now v.from x.1 ∷ history else history) (after_arrival v (Ok x) t)
    choice true is =
        let same = when_true (nat_eq x.1.vlan vid) _ _ is (own x.1.vlan) in
        taught_holds key vlan address history t v.settings (row_of v.settings.vlans x.1.vlan)
        (sighting v.now v.from x.1) (teaches v.settings v.from (refused_in v x.0 x.1))
        (has_key (same_some x.1.vlan vid (eqb-true x.1.vlan vid is))) same.0 same.1 part holds
    choice false is =
        holds_agreed key vlan address history t (after_arrival v (Ok x) t) part
        (came_elsewhere vid vlan v (Ok x) t t own is (agree_refl vlan t)) holds

unless_choice : (p : Sighting → Bool) (x : Sighting) (l k : List Sighting) (w : Bool) → p no_sighting ≡ false
    → Narrow (filter p l) (filter p k)
    → Narrow (filter p (x ∷ l)) (filter p ((if w then no_sighting else x) ∷ k))
unless_choice p x l k true free n =
    subst (λ (b : Bool). Narrow (filter p (x ∷ l)) (if b then no_sighting ∷ filter p k else filter p k)) (sym free)
    (lost (p x))
  where
    lost : (b : Bool) → Narrow (if b then x ∷ filter p l else filter p l) (filter p k)
    lost true = record {
      none = λ z. absurd cc;
      one = λ g z. let rest : filter p l ≡ [] = cc in inl (n.none rest);
    }
    lost false = n
unless_choice p x l k false free n = narrow_cons x (filter p l) (filter p k) (p x) n

unless_narrow : (p : Sighting → Bool) (which : Forgotten) (l : List Sighting) → p no_sighting ≡ false
    → Narrow (filter p l) (filter p (map (unless_forgotten which) l))
unless_narrow p which [] free = same [] [] refl
unless_narrow p which (x ∷ l) free =
    unless_choice p x l (map (unless_forgotten which) l) (is_forgotten which x) free (unless_narrow p which l free)

forgotten_narrow : (p : Sighting → Bool) (first n i : ℕ) (which : Forgotten) (t : List StationBucket)
    → p no_sighting ≡ false
    → Narrow (filter p (places_at t i)) (filter p (places_at (forgotten_in first n which t) i))
forgotten_narrow p first n i which t free = elim (cases_lt i first) [
  | inl lt ↦ out (inl lt)
  | inr le ↦ elim (cases_lt i (first + n)) [
    | inl lt ↦
        subst (λ (b : StationBucket). Narrow (filter p (places_at t i)) (filter p (places b)))
        (sym (forgotten_there first n i which t le lt)) (unless_narrow p which (places_at t i) free)
    | inr more ↦ out (inr more)
  ]
]
  where
    out : (i < first) ⊎ (first + n ≤ i)
        → Narrow (filter p (places_at t i)) (filter p (places_at (forgotten_in first n which t) i))
    out o = same _ _ (ap (λ (b : StationBucket). filter p (places b)) (forgotten_elsewhere first n i which t o))

changed_holds : (key : List ℕ) (vid : ℕ) (vlan : VlanConfig) (address : ℕ) (c : Change) (earlier : List Change)
    (t : List StationBucket)
    → address ≢ 0 → KeepsPart vid vlan c → HasKey key vid c → has_part (length t) vlan ≡ true
    → Holds key vlan address (seen vid earlier) t → Holds key vlan address (seen vid (c ∷ earlier)) (changed c t)
changed_holds key vid vlan address (Came v) earlier t some own has_key part holds =
    came_holds key vid vlan address v (arrival v) (seen vid earlier) t own has_key part holds
changed_holds key vid vlan address (Forgot first n which) earlier t some own has_key part holds =
    let p = is_of address in
    let free : p no_sighting ≡ false = ne_eqb 0 address (λ z. some (sym z)) in
    let m = first_bucket key vlan address in
    let k = second_bucket key vlan address in
    narrowed (Last address (seen vid earlier)) _ _ holds
    (both_narrow p m k t (forgotten_in first n which t) (forgotten_narrow p first n m which t free)
    (forgotten_narrow p first n k which t free))

-- ---- a table keeps its length

learned_len : (b : Bool) (t : List StationBucket) (k : ℕ) (x : StationBucket)
    → length (if b then set t k x else t) ≡ length t
learned_len true t k x = length-set t k x
learned_len false t k x = refl

taught_len : (b : Bool) (t u : List StationBucket) → length u ≡ length t → length (if b then u else t) ≡ length t
taught_len true t u e = e
taught_len false t u e = refl

came_len : (v : Event) (x : Result (Front × Arrived) Discarded) (t : List StationBucket)
    → length (after_arrival v x t) ≡ length t
came_len v (Err reason) t = refl
came_len v (Ok x) t =
    taught_len (teaches v.settings v.from (refused_in v x.0 x.1)) t _
    (learned_len (has_part (length t) (row_of v.settings.vlans x.1.vlan)) t _ _)

changed_len : (c : Change) (t : List StationBucket) → length (changed c t) ≡ length t
changed_len (Came v) t = came_len v (arrival v) t
changed_len (Forgot first n which) t = forgotten_len first n which t

table_len : (changes : List Change) (t : List StationBucket) → length (table_after changes t) ≡ length t
table_len [] t = refl
table_len (c ∷ earlier) t = changed_len c (table_after earlier t) ∙ table_len earlier t

-- ---- all changes

-- a table without stations
abbrev IsEmpty : List StationBucket → Type 0
IsEmpty t = (i : ℕ) → get_or t i no_sightings ≡ no_sightings

empty_none : (p : Sighting → Bool) (c : Bool) → p no_sighting ≡ false
    → filter p (places no_sightings ++ second_of c (places no_sightings)) ≡ []
empty_none p c free =
    let none : filter p (places no_sightings) ≡ [] =
    any_none p (places no_sightings) (ap (λ (b : Bool). b || (b || (b || (b || false)))) free) in
    filter-append p (places no_sightings) (second_of c (places no_sightings)) ∙ second c none
  where
    second : (c : Bool) → filter p (places no_sightings) ≡ []
        → filter p (places no_sightings) ++ filter p (second_of c (places no_sightings)) ≡ []
    second true none = ap (λ (l : List Sighting). l ++ []) none
    second false none = λ i. none i ++ none i

all_hold : (key : List ℕ) (vid : ℕ) (vlan : VlanConfig) (address : ℕ) (changes : List Change) (t : List StationBucket)
    → address ≢ 0 → KeepPart vid vlan changes → HaveKey key vid changes → has_part (length t) vlan ≡ true → IsEmpty t
    → Holds key vlan address (seen vid changes) (table_after changes t)
all_hold key vid vlan address [] t some own has_key part empty =
    let p = is_of address in
    let m = first_bucket key vlan address in
    let n = second_bucket key vlan address in
    let free : p no_sighting ≡ false = ne_eqb 0 address (λ z. some (sym z)) in
    inl ((λ i. filter p (places (empty m i) ++ second_of (nat_eq m n) (places (empty n i))))
    ∙ empty_none p (nat_eq m n) free)
all_hold key vid vlan address (c ∷ earlier) t some own has_key part empty =
    changed_holds key vid vlan address c earlier (table_after earlier t) some own.0 has_key.0
    (ap (λ (n : ℕ). has_part n vlan) (table_len earlier t) ∙ part)
    (all_hold key vid vlan address earlier t some own.1 has_key.1 part empty)

-- ---- what is found

head_choice : (p : Sighting → Bool) (x s : Sighting) (l : List Sighting) (b : Bool)
    → (find p l ≡ Some s → (r : List Sighting) × (filter p l ≡ s ∷ r))
    → (if b then Some x else find p l) ≡ Some s
    → (r : List Sighting) × ((if b then x ∷ filter p l else filter p l) ≡ s ∷ r)
head_choice p x s l true rest e = let is : x ≡ s = cc in (filter p l, λ i. is i ∷ filter p l)
head_choice p x s l false rest e = rest e

head : (p : Sighting → Bool) (l : List Sighting) (s : Sighting) → find p l ≡ Some s
    → (r : List Sighting) × (filter p l ≡ s ∷ r)
head p [] s e = absurd cc
head p (x ∷ l) s e = head_choice p x s l (p x) (head p l s) e

lone_head : (R : Sighting → Type 0) (l r : List Sighting) (s : Sighting) → Lone R l → l ≡ s ∷ r → R s
lone_head R l r s (inl none) is = let both : [] ≡ s ∷ r = sym none ∙ is in absurd cc
lone_head R l r s (inr one) is =
    let both : one.0 ∷ [] ≡ s ∷ r = sym one.1 ∙ is in
    let one_is : one.0 ≡ s = cc in subst R one_is one.2

-- a list twice has the same first one
find_append : (p : Sighting → Bool) (l k : List Sighting) (s : Sighting) → find p (l ++ k) ≡ Some s
    → (find p l ≡ Some s) ⊎ ((find p l ≡ None) × (find p k ≡ Some s))
find_append p [] k s e = inr (refl, e)
find_append p (x ∷ l) k s e = choice (p x) e (find_append p l k s)
  where
    choice : (b : Bool) → (if b then Some x else find p (l ++ k)) ≡ Some s
        → (find p (l ++ k) ≡ Some s → (find p l ≡ Some s) ⊎ ((find p l ≡ None) × (find p k ≡ Some s)))
        → ((if b then Some x else find p l) ≡ Some s)
        ⊎ (((if b then Some x else find p l) ≡ None) × (find p k ≡ Some s))
    choice true e rest = inl e
    choice false e rest = rest e

found_second : (p : Sighting → Bool) (l k : List Sighting) (s : Sighting) (c : Bool) → (c ≡ true → k ≡ l)
    → find p (l ++ k) ≡ Some s → (r : List Sighting) × (filter p (l ++ second_of c k) ≡ s ∷ r)
found_second p l k s false twice e = head p (l ++ k) s e
found_second p l k s true twice e = elim (find_append p l k s e) [
  | inl is ↦
      let h = head p l s is in
      (h.0 ++ [], filter-append p l [] ∙ ap (λ (m : List Sighting). m ++ []) h.1)
  | inr is ↦
      let both : None ≡ Some s = sym is.0 ∙ ap (find p) (sym (twice refl)) ∙ is.1 in absurd cc
]

found_choice : (key : List ℕ) (vlan : VlanConfig) (address : ℕ) (t : List StationBucket) (history : List Sighting)
    (s : Sighting) (b : Bool)
    → let m = first_bucket key vlan address in
    let n = second_bucket key vlan address in
    (b ≡ true → Holds key vlan address history t)
    → (if b then find (is_of address) (places_at t m ++ places_at t n) else None) ≡ Some s → Last address history s
found_choice key vlan address t history s false holds e = absurd cc
found_choice key vlan address t history s true holds e =
    let m = first_bucket key vlan address in
    let n = second_bucket key vlan address in
    let h = found_second (is_of address) (places_at t m) (places_at t n) s (nat_eq m n)
    (λ c. ap (places_at t) (sym (eqb-true m n c))) e in
    lone_head (Last address history) _ h.0 s (holds refl) h.1

empty_table : (n i : ℕ) → get_or (replicate n no_sightings) i no_sightings ≡ no_sightings
empty_table zero i = refl
empty_table (suc n) zero = refl
empty_table (suc n) (suc i) = empty_table n i

pub last_sightings_are_found : LastSightingsAreFound
last_sightings_are_found key vid vlan changes n address s own has_key e =
    let t0 = replicate n no_sightings in
    let t = table_after changes t0 in
    let part = has_part (length t) vlan in
    found_choice key vlan address t (seen vid changes) s (part && is_station address)
    (λ is.
    all_hold key vid vlan address changes t0 (not_zero part address is) own has_key
    (sym (ap (λ (k : ℕ). has_part k vlan) (table_len changes t0)) ∙ (and_parts part (is_station address) is).0)
    (empty_table n)) e

known_by : (ageing now port : ℕ) (o : Option Sighting) → option_and_then (port_at ageing now) o ≡ Some port
    → (s : Sighting) × (o ≡ Some s) × (s.port ≡ port) × (now - s.time ≤ ageing)
known_by ageing now port None e = absurd cc
known_by ageing now port (Some s) e = choice (nat_le (now - s.time) ageing) refl e
  where
    choice : (b : Bool) → nat_le (now - s.time) ageing ≡ b → (if b then Some s.port else None) ≡ Some port
        → (t : Sighting) × (Some s ≡ Some t) × (t.port ≡ port) × (now - t.time ≤ ageing)
    choice true is e = (s, refl, cc, leb-true (now - s.time) ageing is)
    choice false is e = absurd cc

pub frames_follow_stations : FramesFollowStations
frames_follow_stations key vid vlan changes n address ageing now port own has_key e =
    let t = table_after changes (replicate n no_sightings) in
    let known = known_by ageing now port (sighting_of key vlan address t) e in (
      known.0,
      last_sightings_are_found key vid vlan changes n address known.0 own has_key known.1,
      known.2,
      known.3,
    )
