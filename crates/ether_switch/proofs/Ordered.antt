-- The parts of VLANs that are in order.
use Rattle.std.proofs.Common.{◌≡◌, ◌≢◌, ℕ, zero, suc, ◌+◌, ◌<◌, ◌≤◌, ◌⊎◌, inl, inr, Bool, true, false, ◌&&◌, ◌||◌, nat_eq, nat_le, if◌then◌else◌, List, [], ◌∷◌, get_or, refl, sym, ap, ◌∙◌, arith}
use Rattle.std.specs.Prelude.{MatchBool}
use Rattle.std.proofs.lemmas.Bool.{and_parts, cases_lt, eqb-true, eqb-false, eq-eqb, leb-true, le-leb}
use Rattle.ether_switch.specs.declared.vlan_config.VlanConfig.{VlanConfig}
use Rattle.ether_switch.specs.History.{are_apart}
use Rattle.ether_switch.specs.Laws.{PartsInOrderAreApart}
use Rattle.ether_switch.specs.Vlans.{no_vlan, row_of, are_in_order}

-- the first one has no part, or the others begin at its end
record Next (end : ℕ) (v : VlanConfig) (vlans : List VlanConfig) : Type 0 where
  at : ℕ
  later : are_in_order at vlans ≡ true
  from : end ≤ at
  place : (v.buckets ≡ 0) ⊎ ((end ≤ v.first_bucket) × (v.first_bucket + v.buckets ≡ at))

next_choice : (end : ℕ) (v : VlanConfig) (vlans : List VlanConfig) (b : Bool) → nat_eq v.buckets 0 ≡ b
    → (if b then are_in_order end vlans
    else (nat_le end v.first_bucket && are_in_order (v.first_bucket + v.buckets) vlans)) ≡ true → Next end v vlans
next_choice end v vlans true is e =
    record { at = end; later = e; from = omega arith; place = inl (eqb-true v.buckets 0 is) }
next_choice end v vlans false is e =
    let p = and_parts (nat_le end v.first_bucket) _ e in
    let le = leb-true end v.first_bucket p.0 in
    record { at = v.first_bucket + v.buckets; later = p.1; from = omega (arith, le); place = inr (le, refl) }

next : (end : ℕ) (v : VlanConfig) (vlans : List VlanConfig) → are_in_order end (v ∷ vlans) ≡ true → Next end v vlans
next end v vlans e = next_choice end v vlans (nat_eq v.buckets 0) refl e

-- each one has no part, or one from the end on
from_end : (end : ℕ) (vlans : List VlanConfig) (i : ℕ) → are_in_order end vlans ≡ true
    → ((get_or vlans i no_vlan).buckets ≡ 0) ⊎ (end ≤ (get_or vlans i no_vlan).first_bucket)
from_end end [] i e = inl refl
from_end end (v ∷ vlans) zero e = elim ((next end v vlans e).place) [
  | inl none ↦ inl none
  | inr some ↦ inr some.0
]
from_end end (v ∷ vlans) (suc i) e =
    let n = next end v vlans e in
    elim (from_end n.at vlans i n.later) [
      | inl none ↦ inl none
      | inr le ↦ inr (omega (arith, le, n.from))
    ]

-- parts that follow one another are apart
left_apart : (first m other n : ℕ) → (m ≡ 0) ⊎ ((n ≡ 0) ⊎ (first + m ≤ other)) → are_apart first m other n ≡ true
left_apart first m other n (inl none) =
    ap (λ (b : Bool). b || (nat_eq n 0 || (nat_le (first + m) other || nat_le (other + n) first))) (eq-eqb m 0 none)
left_apart first m other n (inr (inl none)) =
    ap (λ (b : Bool). nat_eq m 0 || (b || (nat_le (first + m) other || nat_le (other + n) first))) (eq-eqb n 0 none)
    ∙ or_true (nat_eq m 0)
  where
    or_true : (b : Bool) → (b || true) ≡ true
    or_true true = refl
    or_true false = refl
left_apart first m other n (inr (inr le)) =
    ap (λ (b : Bool). nat_eq m 0 || (nat_eq n 0 || (b || nat_le (other + n) first))) (le-leb (first + m) other le)
    ∙ or_both (nat_eq m 0) (nat_eq n 0)
  where
    or_both : (b c : Bool) → (b || (c || true)) ≡ true
    or_both true c = refl
    or_both false true = refl
    or_both false false = refl

right_apart : (first m other n : ℕ) → (m ≡ 0) ⊎ ((n ≡ 0) ⊎ (other + n ≤ first)) → are_apart first m other n ≡ true
right_apart first m other n (inl none) = left_apart first m other n (inl none)
right_apart first m other n (inr (inl none)) = left_apart first m other n (inr (inl none))
right_apart first m other n (inr (inr le)) =
    ap (λ (b : Bool). nat_eq m 0 || (nat_eq n 0 || (nat_le (first + m) other || b))) (le-leb (other + n) first le)
    ∙ or_all (nat_eq m 0) (nat_eq n 0) (nat_le (first + m) other)
  where
    or_all : (b c d : Bool) → (b || (c || (d || true))) ≡ true
    or_all true c d = refl
    or_all false true d = refl
    or_all false false true = refl
    or_all false false false = refl

-- the part of one is before that of a later one
before : (end : ℕ) (vlans : List VlanConfig) (i j : ℕ) → i < j → are_in_order end vlans ≡ true
    → let v = get_or vlans i no_vlan in
    let w = get_or vlans j no_vlan in
    (v.buckets ≡ 0) ⊎ ((w.buckets ≡ 0) ⊎ (v.first_bucket + v.buckets ≤ w.first_bucket))
before end [] i j lt e = inl refl
before end (v ∷ vlans) i zero lt e = absurd (omega (arith, lt))
before end (v ∷ vlans) zero (suc j) lt e =
    let n = next end v vlans e in
    elim n.place [
      | inl none ↦ inl none
      | inr some ↦ inr (elim (from_end n.at vlans j n.later) [
        | inl none ↦ inl none
        | inr le ↦ inr (omega (arith, le, some.1))
      ])
    ]
before end (v ∷ vlans) (suc i) (suc j) lt e =
    let n = next end v vlans e in before n.at vlans i j (omega (arith, lt)) n.later

order : (i j : ℕ) → i ≢ j → (i < j) ⊎ (j < i)
order i j ne = elim (cases_lt i j) [
  | inl lt ↦ inl lt
  | inr le ↦ inr (omega (arith, le, ne))
]

all_apart : (vlans : List VlanConfig) (vid other : ℕ) → other ≢ vid → are_in_order 0 vlans ≡ true
    → let v = row_of vlans vid in
    let w = row_of vlans other in
    are_apart v.first_bucket v.buckets w.first_bucket w.buckets ≡ true
all_apart vlans vid other ne e =
    let v = row_of vlans vid in
    let w = row_of vlans other in
    elim (order vid other (λ z. ne (sym z))) [
      | inl lt ↦ left_apart v.first_bucket v.buckets w.first_bucket w.buckets (before 0 vlans vid other lt e)
      | inr lt ↦
          right_apart v.first_bucket v.buckets w.first_bucket w.buckets
          (elim (before 0 vlans other vid lt e) [
            | inl none ↦ inr (inl none)
            | inr more ↦ elim more [
              | inl none ↦ inl none
              | inr le ↦ inr (inr le)
            ]
          ])
    ]

pub parts_in_order_are_apart : PartsInOrderAreApart
parts_in_order_are_apart vlans vid e other = choice (nat_eq other vid) refl
  where
    choice : (b : Bool) → nat_eq other vid ≡ b → MatchBool b
        (((row_of vlans other).first_bucket ≡ (row_of vlans vid).first_bucket)
        × ((row_of vlans other).buckets ≡ (row_of vlans vid).buckets))
        (are_apart (row_of vlans vid).first_bucket (row_of vlans vid).buckets (row_of vlans other).first_bucket
        (row_of vlans other).buckets ≡ true)
    choice true is =
        let same = eqb-true other vid is in
        (ap (λ (n : ℕ). (row_of vlans n).first_bucket) same, ap (λ (n : ℕ). (row_of vlans n).buckets) same)
    choice false is = all_apart vlans vid other (eqb-false other vid is) e
