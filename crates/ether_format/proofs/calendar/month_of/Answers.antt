use Rattle.std.proofs.Common.{◌≡◌, suc, ◌+◌, ◌-◌, drop, take, ap, ◌∙◌, arith}
use Rattle.std.specs.Prelude.{slice_index_or}
use Rattle.ether_format.specs.Calendar.{month_lens, sum}
use Rattle.ether_format.proofs.CalendarLemmas.{sum_both, sum_next}
use Rattle.ether_format.proofs.calendar.month_of.Goals as goal

pub loop-left-preserved : goal.loop-left-preserved
loop-left-preserved c =
    let lens = month_lens c.args.is_leap in
    let at = ap (λ l. slice_index_or l c.loop-left.month 0) c.month_lens-lens.ensures in
    let tested = c.from.ensures ∙ at in
    let taken = c.from-left.ensures ∙ at in
    let after : suc c.loop-left.month ≡ c.loop-left.month + 1 = omega arith in
    let next = sum_next lens c.loop-left.month
    ∙ ap (λ n. slice_index_or lens c.loop-left.month 0 + sum (drop n lens)) after in
    let (same, total, few) = c.loop-left.invariant in
    let enough = c.loop-left-test.true in
    (c.month_lens-lens.ensures, omega arith, omega arith)

pub returns-clause-sum : goal.returns-clause-sum
returns-clause-sum c =
    let both = sum_both (month_lens c.args.is_leap) c.loop-left.month in
    let month : c.loop-left.month + 1 - 1 ≡ c.loop-left.month = omega arith in
    let before = ap (λ n. sum (take n (month_lens c.args.is_leap))) month in
    let (same, total, few) = c.loop-left.invariant in
    omega arith
