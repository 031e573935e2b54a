-- Times as dates of the Gregorian calendar and hours of Coordinated Universal Time (ISO 8601).
use Rattle.std.specs.Prelude.{◌≡◌, ℕ, ◌+◌, ◌-◌, ◌*◌, ◌/◌, ◌%◌, ◌<◌, ◌≤◌, ◌&&◌, ◌||◌, not, nat_eq, List, [], ◌∷◌, take, slice_index, Bool, if◌then◌else◌, Option, Some, None, ⊤}
use Rattle.ether_pcap.specs.Capture.{TimeValue}
use Rattle.ether_format.specs.declared.moment.Moment.{Moment}

-- ---- the calendar

-- every fourth year is a leap year, except for every hundredth that is not a four hundredth
abbrev pub is_leap_year : ℕ → Bool
is_leap_year y = nat_eq (y % 4) 0 && (not (nat_eq (y % 100) 0) || nat_eq (y % 400) 0)

-- the number of days of each month of a year
abbrev pub month_lens : (leap : Bool) → List ℕ
month_lens leap = 31 ∷ (if leap then 29 else 28) ∷ 31 ∷ 30 ∷ 31 ∷ 30 ∷ 31 ∷ 31 ∷ 30 ∷ 31 ∷ 30 ∷ 31 ∷ []

abbrev pub sum : List ℕ → ℕ
sum [] = 0
sum (n ∷ ns) = n + sum ns

-- the number of days of a year before a month
abbrev pub days_before_month : (leap : Bool) → (month : ℕ) → ℕ
days_before_month leap month = sum (take (month - 1) (month_lens leap))

-- the number of days from 1 January of the year 1 to 1 January of a year
abbrev pub days_before_year : ℕ → ℕ
days_before_year y = let years = y - 1 in 365 * years + (years / 4 - years / 100 + years / 400)

-- ---- a time

-- the day that is `days` days after 1 January of the year 1
pub record IsDate (days year month day : ℕ) : Type 0 where
  pub first_year : 1 ≤ year
  pub first_month : 1 ≤ month
  pub last_month : month ≤ 12
  pub first_day : 1 ≤ day
  pub last_day : day ≤ slice_index (month_lens (is_leap_year year)) (month - 1)
  pub is_sum : days ≡ days_before_year year + days_before_month (is_leap_year year) month + (day - 1)

-- the time of day that is `seconds` seconds after midnight
pub record IsHour (seconds hour minute second : ℕ) : Type 0 where
  pub hours : hour < 24
  pub minutes : minute < 60
  pub seconds_left : second < 60
  pub is_sum : seconds ≡ hour * 3600 + minute * 60 + second

-- seconds and nanoseconds since the beginning of 1970, as a moment
pub record IsMoment (t : TimeValue) (m : Moment) : Type 0 where
  pub seconds : m.seconds ≡ t.seconds
  pub date : IsDate (days_before_year 1970 + t.seconds / 86400) m.year m.month m.day
  pub hour : IsHour (t.seconds % 86400) m.hour m.minute m.second
  pub nanoseconds : m.nanoseconds ≡ t.nanoseconds

-- .. if there is a time
abbrev pub AreMoments : Option TimeValue → Option Moment → Type 0
AreMoments None None = ⊤
AreMoments None (Some m) = ⊥
AreMoments (Some t) None = ⊥
AreMoments (Some t) (Some m) = IsMoment t m
