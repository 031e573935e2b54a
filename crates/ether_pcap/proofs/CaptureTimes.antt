-- Times of a number of units, if a second has so many.
use Rattle.std.proofs.Common.{◌≡◌, ℕ, ◌+◌, ◌*◌, ◌/◌, ◌%◌, ◌^◌, ◌<◌, ◌≤◌, ap, ◌∙◌, arith, Some, Bool, mul_assoc, rules}
use Rattle.std.specs.Prelude.{min, if◌then◌else◌, ◌-◌}
use Rattle.std.proofs.Math.Nat.{div-add-mod, add-mul-div_left, div-eq_of_lt, pow-le-pow_right, one-le-pow}
use Rattle.std.proofs.lemmas.Bool.{cases_lt, lt-ltb}
use Rattle.ether_pcap.specs.Capture.{time_of, units_of}

-- nanoseconds by whole seconds and what is left of them
split : (n u : ℕ) → 0 < u → n * 1000000000 / u ≡ n % u * 1000000000 / u + n / u * 1000000000
split n u some =
    let e : u * (n / u) + n % u ≡ n = div-add-mod n u in
    let m : u * (n / u) * 1000000000 ≡ u * (n / u * 1000000000) = mul_assoc u (n / u) 1000000000 in
    let s : n * 1000000000 ≡ n % u * 1000000000 + u * (n / u * 1000000000) = omega (arith, e, m) in
    ap (λ (k : ℕ). k / u) s ∙ add-mul-div_left (n % u * 1000000000) (n / u * 1000000000) some

below_a_second : (n u : ℕ) → 0 < u → n % u * 1000000000 / u < 1000000000
below_a_second n u some = search rules

pub same_time : (n u : ℕ) → 0 < u
    → record { seconds = n / u; nanoseconds = n % u * 1000000000 / u } ≡ time_of (n * 1000000000 / u)
same_time n u some = search (rules, split, below_a_second)

-- ---- how many units a second has

pub power_of_ten : (n : ℕ) → n ≤ 29 → 10 ^ n ≤ 100000000000000000000000000000
power_of_ten n le = pow-le-pow_right {n = 10} (omega arith) {i = n} {j = 29} le

pub power_of_two : (n : ℕ) → n ≤ 127 → 2 ^ n ≤ 170141183460469231731687303715884105728
power_of_two n le = pow-le-pow_right {n = 2} (omega arith) {i = n} {j = 127} le

pub some_units : (n : ℕ) → 0 < 10 ^ n
some_units n = one-le-pow n 10 (omega arith)

-- with as many units all times are below a nanosecond
below_a_nanosecond : (n ticks : ℕ) → 29 ≤ n → ticks < 18446744073709551616 → ticks * 1000000000 / 10 ^ n ≡ 0
below_a_nanosecond n ticks le lt =
    let p : 100000000000000000000000000000 ≤ 10 ^ n = pow-le-pow_right {n = 10} (omega arith) {i = 29} {j = n} le in
    div-eq_of_lt {n = ticks * 1000000000} {m = 10 ^ n} (omega (arith, p, lt))

same_quotient : (n ticks : ℕ) → ticks < 18446744073709551616
    → ticks * 1000000000 / 10 ^ min n 29 ≡ ticks * 1000000000 / 10 ^ n
same_quotient n ticks lt = search (rules, cases_lt, below_a_nanosecond)

units_of_ten : (n : ℕ) → n < 128 → units_of (Some n) ≡ 10 ^ n
units_of_ten n lt = ap (λ (b : Bool). if b then 10 ^ n else 2 ^ (n - 128)) (lt-ltb n 128 lt)

pub same_times : (n m ticks : ℕ) → n < 128 → m ≡ min n 29 → ticks < 18446744073709551616
    → ticks * 1000000000 / 10 ^ m ≡ ticks * 1000000000 / units_of (Some n)
same_times n m ticks below is lt = search (rules, same_quotient, units_of_ten)
