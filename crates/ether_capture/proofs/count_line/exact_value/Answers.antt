use Rattle.std.proofs.Common.{◌≡◌, ◌∙◌, ◌+◌, ◌-◌, ◌<◌, ◌≤◌, ◌^◌, ℕ, length, arith, Option, None, Some, IfNone, IfSome}
use Rattle.std.specs.Option.{SomeIff}
use Rattle.ether_capture.proofs.FieldLemmas.{decimal_last}
use Rattle.ether_capture.proofs.count_line.exact_value.Goals as goal

some_of : (r : Option ℕ) (sum whole : ℕ) → SomeIff r (sum < 2 ^ 64) sum → sum ≡ whole
    → IfSome r (λ n. (n ≡ whole) × (n < 2 ^ 64))
some_of None sum whole is same = tt
some_of (Some n) sum whole is same = (is.1 ∙ same, omega (arith, is.0, is.1))

none_of : (r : Option ℕ) (sum whole : ℕ) → SomeIff r (sum < 2 ^ 64) sum → sum ≡ whole
    → IfNone r (2 ^ 64 ≤ whole)
none_of None sum whole is same = omega (arith, is, same)
none_of (Some n) sum whole is same = tt

pub returns-in_err-front-clause-none : goal.returns-in_err-front-clause-none
returns-in_err-front-clause-none c =
    let some : length c.args.digits.now ≡ (length c.args.digits.now - 1) + 1 = omega (arith, c.requires) in
    let is = decimal_last c.args.digits.now (length c.args.digits.now - 1) some in
    let value = c.decimal_value.ensures in
    let much = c.in_err-front.ensures in
    rw c.from_residual.ensures (omega (arith, is, value, much))

pub returns-clause-some : goal.returns-clause-some
returns-clause-some c =
    let some : length c.args.digits.now ≡ (length c.args.digits.now - 1) + 1 = omega (arith, c.requires) in
    let is = decimal_last c.args.digits.now (length c.args.digits.now - 1) some in
    let value = c.decimal_value.ensures in
    let front = c.in_ok-front.ensures in
    some_of c.checked_add.result _ _ c.checked_add.ensures
    (omega (arith, is, value, front.0, front.1, c.from.ensures, c.saturating_sub.ensures))

pub returns-clause-none : goal.returns-clause-none
returns-clause-none c =
    let some : length c.args.digits.now ≡ (length c.args.digits.now - 1) + 1 = omega (arith, c.requires) in
    let is = decimal_last c.args.digits.now (length c.args.digits.now - 1) some in
    let value = c.decimal_value.ensures in
    let front = c.in_ok-front.ensures in
    none_of c.checked_add.result _ _ c.checked_add.ensures
    (omega (arith, is, value, front.0, front.1, c.from.ensures, c.saturating_sub.ensures))
