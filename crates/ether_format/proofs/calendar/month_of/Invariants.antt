use Rattle.std.proofs.Common.{◌≡◌, ◌+◌, ◌-◌, ◌<◌, drop}
use Rattle.ether_format.specs.Calendar.{month_lens, sum}
use Rattle.ether_format.proofs.calendar.month_of.Given as goal

abbrev pub invariant-loop-left : goal.invariant-loop-left
invariant-loop-left l =
    (l.lens ≡ month_lens l.fn.is_leap)
    × (l.left + sum (month_lens l.fn.is_leap) ≡ l.fn.day_of_year + sum (drop l.month (month_lens l.fn.is_leap)))
    × (l.left < sum (drop l.month (month_lens l.fn.is_leap)))

abbrev pub decreases-loop-left : goal.decreases-loop-left
decreases-loop-left l = 12 - l.month
