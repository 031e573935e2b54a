-- Times: a date of the Gregorian calendar (ISO 8601) and a time of day in UTC, as RFC 3339 (5.6) writes them.
use Rattle.std.specs.Prelude.{ℕ, ◌+◌, ◌-◌, ◌*◌, ◌/◌, ◌%◌, ◌^◌, List, [], ◌∷◌, length, take, drop, slice_index, slice_range, Option, Some, None, Result, Ok, Err, option_map, Bool, not, nat_eq, nat_lt, nat_le, ◌&&◌, ◌||◌, if◌then◌else◌}
use Rattle.std.specs.List.{list_all}
use Rattle.serde_json.specs.Data.{Data}
use Rattle.serde_json.specs.Find.{as_str}
use Rattle.ether_make.specs.declared.refusal.Reason.{Reason}
use Rattle.ether_make.specs.declared.refusal.Reason.TheVariants as reasons
use Rattle.ether_make.specs.declared.time_text.Time.{Time}

-- ---- the calendar

-- every fourth year is a leap year, except for every hundredth that is not a four hundredth
abbrev pub is_leap_year : ℕ → Bool
is_leap_year y = nat_eq (y % 4) 0 && (not (nat_eq (y % 100) 0) || nat_eq (y % 400) 0)

-- the number of days of each month of a year
abbrev pub month_lens : (leap : Bool) → List ℕ
month_lens leap = 31 ∷ (if leap then 29 else 28) ∷ 31 ∷ 30 ∷ 31 ∷ 30 ∷ 31 ∷ 31 ∷ 30 ∷ 31 ∷ 30 ∷ 31 ∷ []

abbrev pub sum : List ℕ → ℕ
sum [] = 0
sum (n ∷ ns) = n + sum ns

-- the number of days of a year before a month
abbrev pub days_before_month : (leap : Bool) → (month : ℕ) → ℕ
days_before_month leap month = sum (take (month - 1) (month_lens leap))

-- the number of days from 1 January of the year 1 to 1 January of a year
abbrev pub days_before_year : ℕ → ℕ
days_before_year y = let years = y - 1 in 365 * years + (years / 4 - years / 100 + years / 400)

-- ---- a text

-- a zero (48), or one of the nine digits after it
abbrev pub is_digit : ℕ → Bool
is_digit c = nat_le 48 c && nat_lt (c - 48) 10

-- the places of the digits in 2026-11-01T00:00:00
abbrev pub date_digits : List ℕ
date_digits = 0 ∷ 1 ∷ 2 ∷ 3 ∷ 5 ∷ 6 ∷ 8 ∷ 9 ∷ 11 ∷ 12 ∷ 14 ∷ 15 ∷ 17 ∷ 18 ∷ []

abbrev pub are_digits : List ℕ → Bool
are_digits text = list_all (λ i. is_digit (slice_index text i)) date_digits

-- the signs between them: two hyphens, a T and two colons
abbrev pub are_signs : List ℕ → Bool
are_signs text =
    list_all (λ i. nat_eq (slice_index text i) 45) (4 ∷ 7 ∷ [])
    && (nat_eq (slice_index text 10) 84 && list_all (λ i. nat_eq (slice_index text i) 58) (13 ∷ 16 ∷ []))

-- the number of the two digits from a place on
abbrev pub two_at : (at : ℕ) → List ℕ → ℕ
two_at at text = (slice_index text at - 48) * 10 + (slice_index text (at + 1) - 48)

abbrev pub year_of : List ℕ → ℕ
year_of text = two_at 0 text * 100 + two_at 2 text

abbrev pub is_date : List ℕ → Bool
is_date text =
    nat_le 1 (two_at 5 text) && nat_le (two_at 5 text) 12
    && (nat_le 1 (two_at 8 text)
    && nat_le (two_at 8 text) (slice_index (month_lens (is_leap_year (year_of text))) (two_at 5 text - 1)))

-- no second is a leap second
abbrev pub is_time_of_day : List ℕ → Bool
is_time_of_day text = (nat_lt (two_at 11 text) 24 && nat_lt (two_at 14 text) 60) && nat_lt (two_at 17 text) 60

-- the number of seconds from 1 January of the year 1 to a date and a time of day
abbrev pub seconds_of : List ℕ → ℕ
seconds_of text =
    (days_before_year (year_of text) + days_before_month (is_leap_year (year_of text)) (two_at 5 text)
    + (two_at 8 text - 1)) * 86400
    + (two_at 11 text * 3600 + two_at 14 text * 60 + two_at 17 text)

-- The nanoseconds of decimals of the second. The first decimal counts this unit, and each later one a tenth of that.
abbrev pub fraction_in : (unit : ℕ) → List ℕ → Option ℕ
fraction_in unit [] = Some 0
fraction_in unit (c ∷ cs) =
    if is_digit c then option_map (λ (later : ℕ). (c - 48) * unit + later) (fraction_in (unit / 10) cs) else None

-- the nanoseconds after the second: none before a Z (90), or one to nine decimals between a point (46) and a Z
abbrev pub decimals_in : List ℕ → Option ℕ
decimals_in text =
    if nat_eq (length text) 1 && nat_eq (slice_index text 0) 90 then Some 0
    else (if (nat_le 3 (length text) && nat_le (length text) 11)
    && (nat_eq (slice_index text 0) 46 && nat_eq (slice_index text (length text - 1)) 90)
    then fraction_in 100000000 (slice_range text 1 (length text - 1)) else None)

-- ---- the time of a packet

-- from the year 1 to 1970
abbrev pub seconds_before_1970 : ℕ
seconds_before_1970 = days_before_year 1970 * 86400

-- a capture has 32 bits for the seconds since the beginning of 1970 (draft-ietf-opsawg-pcap, section 5)
abbrev pub in_capture : (seconds nanoseconds : ℕ) → Result Time Reason
in_capture seconds nanoseconds =
    if nat_le seconds_before_1970 seconds && nat_lt (seconds - seconds_before_1970) (2 ^ 32)
    then Ok (record { seconds = seconds - seconds_before_1970; nanoseconds = nanoseconds }) else Err reasons.OtherTime

abbrev pub with_decimals : (seconds : ℕ) → Option ℕ → Result Time Reason
with_decimals seconds None = Err reasons.NotATime
with_decimals seconds (Some nanoseconds) = in_capture seconds nanoseconds

abbrev pub is_moment : List ℕ → Bool
is_moment text = (are_digits text && are_signs text) && (is_date text && is_time_of_day text)

abbrev pub time_at : (text : List ℕ) → (decimals : Option ℕ) → Result Time Reason
time_at text decimals = if is_moment text then with_decimals (seconds_of text) decimals else Err reasons.NotATime

-- the time that a text is
abbrev pub time_in : List ℕ → Result Time Reason
time_in text =
    if nat_lt (length text) 20 then Err reasons.NotATime else time_at (take 19 text) (decimals_in (drop 19 text))

abbrev pub text_time : Option (List ℕ) → Result Time Reason
text_time None = Err reasons.NotAText
text_time (Some text) = time_in text

-- the time that is given, or the beginning of 1970
abbrev pub time : Option Data → Result Time Reason
time None = Ok (record { seconds = 0; nanoseconds = 0 })
time (Some d) = text_time (as_str d)
