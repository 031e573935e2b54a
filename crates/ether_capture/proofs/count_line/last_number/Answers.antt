use Rattle.std.proofs.Common.{◌≡◌, ◌∙◌, ℕ, List, [], ◌∷◌, arith, length, refl, rules, sym, true, false}
use Rattle.ether_capture.proofs.MergingLemmas.{after_last_tab, without_tab}
use Rattle.ether_capture.proofs.count_line.last_number.Goals as goal
use Rattle.ether_capture.proofs.count_line.last_number.Goals.{then-is_empty-via-then-is_empty, then-is_empty-via-else-is_empty+then-not-are_digits}

none_of : (text : List ℕ) → length text ≡ 0 → text ≡ []
none_of [] zero = refl
none_of (b ∷ bs) zero = absurd (omega (arith, zero))

pub returns-in_err-front-clause-none : goal.returns-in_err-front-clause-none
returns-in_err-front-clause-none c =
    rw c.from_residual.ensures (without_tab c.args.text.now c.in_err-front.ensures.none)

pub returns-then-is_empty-clause-none : goal.returns-then-is_empty-clause-none
returns-then-is_empty-clause-none c =
    let is = c.in_ok-front.ensures.some in
    after_last_tab c.args.text.now c.in_ok-front.front.now c.in_ok-front.digits.now is.0 is.1
    (λ number n. elim c.then-is_empty.branch [
      | then-is_empty-via-then-is_empty w ↦ n.some (none_of c.in_ok-front.digits.now (search rules))
      | then-is_empty-via-else-is_empty+then-not-are_digits w ↦
          (let yes : true ≡ false = sym (w.are_digits.ensures.1 n.all) ∙ w.if-not-are_digits.true in absurd cc)
    ])

pub returns-in_err-number-clause-none : goal.returns-in_err-number-clause-none
returns-in_err-number-clause-none c =
    let is = c.in_ok-front.ensures.some in
    rw c.from_residual-in_err-number.ensures
    (after_last_tab c.args.text.now c.in_ok-front.front.now c.in_ok-front.digits.now is.0 is.1
    (λ number n. let value = n.value in
    let fits = n.fits in
    let big = c.in_err-number.ensures.none in omega (arith, value, fits, big)))
