-- A time is one moment at most.
use Rattle.std.proofs.Common.{◌≡◌, ℕ, zero, suc, ◌+◌, ◌-◌, ◌/◌, ◌%◌, ◌<◌, ◌≤◌, rules, List, [], ◌∷◌, take, Bool, refl, sym, ap, subst, ◌∙◌, arith, inl, inr}
use Rattle.std.specs.Prelude.{slice_index, slice_index_or}
use Rattle.std.proofs.lemmas.Bool.{cases_lt}
use Rattle.ether_pcap.specs.Capture.{TimeValue}
use Rattle.ether_format.specs.declared.moment.Moment.{Moment}
use Rattle.ether_format.specs.Calendar.{IsDate, IsHour, IsMoment, days_before_month, days_before_year, is_leap_year, month_lens, sum}

-- ---- days of years

pub len_of : (y : ℕ) → 1 ≤ y → days_before_year y + sum (month_lens (is_leap_year y)) ≡ days_before_year (y + 1)
len_of y from = search rules

later_year : (y z : ℕ) → y ≤ z → days_before_year y ≤ days_before_year z
later_year y z le = omega (arith, le)

-- ---- days of months

prefix : (l : List ℕ) (i j : ℕ) → i ≤ j → sum (take i l) ≤ sum (take j l)
prefix l zero j le = omega arith
prefix [] (suc i) zero le = absurd (omega (arith, le))
prefix [] (suc i) (suc j) le = omega arith
prefix (x ∷ l) (suc i) zero le = absurd (omega (arith, le))
prefix (x ∷ l) (suc i) (suc j) le = let e = prefix l i j (omega (arith, le)) in omega arith

taken_next : (l : List ℕ) (n : ℕ) → sum (take (suc n) l) ≡ sum (take n l) + slice_index_or l n 0
taken_next [] zero = refl
taken_next [] (suc n) = refl
taken_next (x ∷ l) zero = omega arith
taken_next (x ∷ l) (suc n) = let e = taken_next l n in omega arith

-- the days of a month end where those of the next one begin
within_month : (b : Bool) (m d n : ℕ) → 1 ≤ m → m < n → d ≤ slice_index (month_lens b) (m - 1) → 1 ≤ d
    → days_before_month b m + (d - 1) < days_before_month b n
within_month b m d n from lt fits first =
    let next = taken_next (month_lens b) (m - 1) in
    let is : suc (m - 1) ≡ m = omega arith in
    let after : sum (take m (month_lens b)) ≤ sum (take (n - 1) (month_lens b)) =
    prefix (month_lens b) m (n - 1) (omega arith) in
    let same = ap (λ k. sum (take k (month_lens b))) is in
    omega (arith, next, same, after, fits, first)

-- .. and so within the year
within_year : (b : Bool) (m d : ℕ) → 1 ≤ m → m ≤ 12 → d ≤ slice_index (month_lens b) (m - 1) → 1 ≤ d
    → days_before_month b m + (d - 1) < sum (month_lens b)
within_year b m d from to fits first =
    let all = within_month b m d 13 from (omega (arith, to)) fits first in
    let whole : days_before_month b 13 ≡ sum (month_lens b) = refl in
    omega (arith, all, whole)

-- ---- one date

module _ (days y m d z n e : ℕ) (a : IsDate days y m d) (b : IsDate days z n e) where
  not_earlier : y < z → ⊥
  not_earlier lt =
      let inside = within_year (is_leap_year y) m d a.first_month a.last_month a.last_day a.first_day in
      let len = len_of y a.first_year in
      let later = later_year (y + 1) z (omega (arith, lt)) in
      let one = a.is_sum in
      let two = b.is_sum in
      omega (arith, inside, len, later, one, two)

not_before : (b : Bool) (m d n e : ℕ) → 1 ≤ m → m < n → d ≤ slice_index (month_lens b) (m - 1) → 1 ≤ d
    → days_before_month b m + (d - 1) ≡ days_before_month b n + (e - 1) → ⊥
not_before b m d n e from lt fits first same =
    let inside = within_month b m d n from lt fits first in
    omega (arith, inside, same)

same_year : (days y m d z n e : ℕ) → IsDate days y m d → IsDate days z n e → y ≡ z
same_year days y m d z n e a b =
    elim (cases_lt y z) [
      | inl lt ↦ absurd (not_earlier days y m d z n e a b lt)
      | inr le ↦ elim (cases_lt z y) [
        | inl lt ↦ absurd (not_earlier days z n e y m d b a lt)
        | inr ge ↦ omega
            (arith, le, ge)
      ]
    ]

same_month : (b : Bool) (m d n e : ℕ) → 1 ≤ m → 1 ≤ n → 1 ≤ d → 1 ≤ e → d ≤ slice_index (month_lens b) (m - 1)
    → e ≤ slice_index (month_lens b) (n - 1) → days_before_month b m + (d - 1) ≡ days_before_month b n + (e - 1) → m ≡ n
same_month b m d n e from begin first one fits also same =
    elim (cases_lt m n) [
      | inl lt ↦ absurd (not_before b m d n e from lt fits first same)
      | inr le ↦ elim (cases_lt n m) [
        | inl lt ↦ absurd
            (not_before b n e m d begin lt also one (sym same))
        | inr ge ↦ omega (arith, le, ge)
      ]
    ]

one_date : (days y m d z n e : ℕ) → IsDate days y m d → IsDate days z n e → (y ≡ z) × (m ≡ n) × (d ≡ e)
one_date days y m d z n e a b =
    let year = same_year days y m d z n e a b in
    let c = subst (λ (k : ℕ). IsDate days k n e) (sym year) b in
    let one = a.is_sum in
    let two = c.is_sum in
    let leap = is_leap_year y in
    let same : days_before_month leap m + (d - 1) ≡ days_before_month leap n + (e - 1) = omega (arith, one, two) in
    let month = same_month leap m d n e a.first_month c.first_month a.first_day c.first_day a.last_day c.last_day
    same in
    let before = ap (days_before_month leap) month in
    let first = a.first_day in
    let also = c.first_day in
    (year, month, omega (arith, same, before, first, also))

-- ---- one time of day

one_hour : (s h m k i n l : ℕ) → IsHour s h m k → IsHour s i n l → (h ≡ i) × (m ≡ n) × (k ≡ l)
one_hour s h m k i n l a b =
    let p = a.minutes in
    let q = a.seconds_left in
    let r = b.minutes in
    let u = b.seconds_left in
    let one = a.is_sum in
    let two = b.is_sum in
    (omega (arith, p, q, r, u, one, two), omega (arith, p, q, r, u, one, two), omega (arith, p, q, r, u, one, two))

pub one_moment : (t : TimeValue) (m n : Moment) → IsMoment t m → IsMoment t n → m ≡ n
one_moment t m n a b =
    let date = one_date (days_before_year 1970 + t.seconds / 86400) m.year m.month m.day n.year n.month n.day a.date
    b.date in
    let hour = one_hour (t.seconds % 86400) m.hour m.minute m.second n.hour n.minute n.second a.hour b.hour in
    let rest = a.nanoseconds ∙ sym b.nanoseconds in
    let seconds = a.seconds ∙ sym b.seconds in
    λ i. record {
      seconds = seconds i;
      year = date.0 i;
      month = date.1 i;
      day = date.2 i;
      hour = hour.0 i;
      minute = hour.1 i;
      second = hour.2 i;
      nanoseconds = rest i;
    }
