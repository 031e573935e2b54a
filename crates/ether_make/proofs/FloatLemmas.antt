-- A number below 2^128 has a finite float nearest to it.
use Prim.Native.Nat.{Ordering}
use Rattle.std.proofs.Common.{◌≡◌, ℕ, ◌+◌, ◌-◌, ◌*◌, ◌/◌, ◌^◌, ◌<◌, ◌≤◌, Bool, true, zero, suc, refl, subst, arith}
use Rattle.std.proofs.lemmas.Bool.{lt-ltb}
use Rattle.std.proofs.Math.Pow.{pow_mono}
use Rattle.std.proofs.Math.Nat.{div-mul-le_self, mul-le-mul_left, mul-le-mul_right, le-mul_of_pos_right, mul_comm, suc-mul, div-le_self}
use Rattle.std.specs.Float.{binary64, float_is_finite}
use lib.Ieee.{round, units, odd, nearest, size, low}
use lib.Ieee.Digits.{size-le}

odd_finite : (d : ℕ) (s : Bool) (q k l : ℕ) → float_is_finite (odd d s q k l) ≡ true
unfolding odd float_is_finite
odd_finite d s zero k l = refl
odd_finite d s (suc q) k l = refl

units_finite : (s : Bool) (q k : ℕ) → q * 2 ^ k < 2 ^ 2098 → float_is_finite (units binary64 s q k) ≡ true
unfolding units
units_finite s q k h = rw (lt-ltb (q * 2 ^ k) (2 ^ 2098) h) (odd_finite 54 s q k (low binary64))

nearest_le : (q : ℕ) (o : Ordering) → nearest q o ≤ suc q
nearest_le q Ordering.lt = omega arith
nearest_le q Ordering.eq = omega arith
nearest_le q Ordering.gt = omega arith

-- q units of 2 ^ k are no more than the number and one of them
few_units : (n den k q : ℕ) → 0 < den → n < 2 ^ 1202 → k ≤ 1149 → q ≤ suc (n / (den * 2 ^ k)) → q * 2 ^ k < 2 ^ 2098
few_units n den k q some small low_k le =
    let unit = 2 ^ k in
    let u = den * unit in
    let step : unit ≤ 2 ^ 1149 = pow_mono low_k in
    let wide : unit ≤ u = subst (λ m. unit ≤ m) (mul_comm unit den) (le-mul_of_pos_right unit some) in
    let whole : n / u * u ≤ n = div-mul-le_self n u in
    let part : n / u * unit ≤ n / u * u = mul-le-mul_left (n / u) wide in
    let more : q * unit ≤ suc (n / u) * unit = mul-le-mul_right unit le in
    let sum : suc (n / u) * unit ≡ n / u * unit + unit = suc-mul (n / u) unit in
    omega (arith, more, sum, part, whole, step)

pub round_finite : (s : Bool) (num den : ℕ) → num < 2 ^ 128 → 0 < den
    → float_is_finite (round binary64 s num den) ≡ true
unfolding round
round_finite s num den small some =
    let n = num * 2 ^ 1074 in
    let k = size (n / den) - 53 in
    let bound : n < 2 ^ 1202 = omega arith in
    let part : n / den < 2 ^ 1202 = omega (arith, div-le_self n den) in
    let few : k ≤ 1149 = omega (arith, size-le (n / den) 1202 part) in
    units_finite s _ k (few_units n den k _ some bound few (nearest_le (n / (den * 2 ^ k)) _))
