-- Each time is a moment.
use Rattle.std.proofs.Common.{◌≡◌, ℕ, zero, suc, ◌+◌, ◌-◌, ◌/◌, ◌%◌, ◌<◌, ◌≤◌, List, [], ◌∷◌, take, length, Bool, true, false, Option, Some, None, refl, ap, arith, inl, inr}
use Rattle.std.specs.Prelude.{slice_index_or}
use Rattle.std.proofs.lemmas.Bool.{cases_lt}
use Rattle.ether_pcap.specs.Capture.{TimeValue}
use Rattle.ether_format.specs.declared.moment.Moment.{Moment}
use Rattle.ether_format.specs.Calendar.{AreMoments, IsDate, IsHour, IsMoment, days_before_month, days_before_year, is_leap_year, month_lens, sum}
use Rattle.ether_format.proofs.OneMoment.{len_of}

-- ---- a day of a year

record InYear (days : ℕ) : Type 0 where
  year : ℕ
  left : ℕ
  first : 1 ≤ year
  is_sum : days ≡ days_before_year year + left
  last : left < sum (month_lens (is_leap_year year))

some_days : (leap : Bool) → 0 < sum (month_lens leap)
some_days true = omega arith
some_days false = omega arith

day_after : (days : ℕ) → InYear days → InYear (suc days)
day_after days a =
    elim (cases_lt (a.left + 1) (sum (month_lens (is_leap_year a.year)))) [
      | inl lt ↦ record {
        year = a.year;
        left = a.left + 1;
        first = a.first;
        is_sum = let e = a.is_sum in omega (arith, e);
        last = lt;
      }
      | inr le ↦ record {
        year = a.year + 1;
        left = 0;
        first = omega arith;
        is_sum = let e = a.is_sum in let len = len_of a.year a.first in let lt = a.last in
            omega (arith, e, len, lt, le);
        last = some_days (is_leap_year (a.year + 1));
      }
    ]

in_year : (days : ℕ) → InYear days
in_year zero = record { year = 1; left = 0; first = omega arith; is_sum = refl; last = some_days (is_leap_year 1) }
in_year (suc days) = day_after days (in_year days)

-- ---- a day of a month, both counted from 0

record InMonth (lens : List ℕ) (left : ℕ) : Type 0 where
  month : ℕ
  day : ℕ
  is_sum : left ≡ sum (take month lens) + day
  last : day < slice_index_or lens month 0
  inside : month < length lens

month_after : (n : ℕ) (lens : List ℕ) (left : ℕ) → n ≤ left → InMonth lens (left - n) → InMonth (n ∷ lens) left
month_after n lens left le a = record {
  month = suc a.month;
  day = a.day;
  is_sum = let e = a.is_sum in omega (arith, e, le);
  last = a.last;
  inside = let lt = a.inside in omega (arith, lt);
}

in_month : (lens : List ℕ) (left : ℕ) → left < sum lens → InMonth lens left
in_month [] left lt = absurd (omega (arith, lt))
in_month (n ∷ lens) left lt =
    elim (cases_lt left n) [
      | inl few ↦ record { month = 0; day = left; is_sum = omega arith; last = few; inside = omega arith }
      | inr le ↦ month_after n lens left le (in_month lens (left - n) (omega (arith, lt, le)))
    ]

-- ---- a time

record Dated (days : ℕ) : Type 0 where
  year : ℕ
  month : ℕ
  day : ℕ
  is_date : IsDate days year month day

dated : (days : ℕ) → Dated days
dated days =
    let a = in_year days in
    let lens = month_lens (is_leap_year a.year) in
    let b = in_month lens a.left a.last in
    let sum_of_year = a.is_sum in
    let sum_of_month = b.is_sum in
    let last = b.last in
    let inside = b.inside in
    let back : b.month + 1 - 1 ≡ b.month = omega arith in
    let before = ap (λ (k : ℕ). sum (take k lens)) back in
    let len = ap (λ (k : ℕ). slice_index_or lens k 0) back in
    let month : a.left ≡ days_before_month (is_leap_year a.year) (b.month + 1) + (b.day + 1 - 1) =
    omega (arith, sum_of_month, before) in
    record {
      year = a.year;
      month = b.month + 1;
      day = b.day + 1;
      is_date = record {
        first_year = a.first;
        first_month = omega arith;
        last_month = omega (arith, inside);
        first_day = omega arith;
        last_day = omega (arith, last, len);
        is_sum = omega (arith, sum_of_year, month);
      };
    }

some_hour : (seconds : ℕ) → seconds < 86400 → IsHour seconds (seconds / 3600) (seconds / 60 % 60) (seconds % 60)
some_hour seconds lt = record {
  hours = omega (arith, lt);
  minutes = omega arith;
  seconds_left = omega arith;
  is_sum = omega arith;
}

pub some_moment : (t : TimeValue) → (m : Moment) × IsMoment t m
some_moment t =
    let a = dated (days_before_year 1970 + t.seconds / 86400) in
    let seconds = t.seconds % 86400 in (
      record {
        seconds = t.seconds;
        year = a.year;
        month = a.month;
        day = a.day;
        hour = seconds / 3600;
        minute = seconds / 60 % 60;
        second = seconds % 60;
        nanoseconds = t.nanoseconds;
      },
      record { seconds = refl; date = a.is_date; hour = some_hour seconds (omega arith); nanoseconds = refl },
    )

pub some_moments : (t : Option TimeValue) → (m : Option Moment) × AreMoments t m
some_moments None = (None, tt)
some_moments (Some t) = let m = some_moment t in (Some m.0, m.1)
