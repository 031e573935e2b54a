-- Times as words: a date of the Gregorian calendar (ISO 8601) and a time of day in UTC, as RFC 3339 (5.6) writes them.
use Rattle.std.specs.Prelude.{ℕ, ◌+◌, ◌-◌, ◌*◌, ◌/◌, ◌%◌, ◌^◌, List, [], ◌∷◌, ◌++◌, codes, length, take, drop, slice_index, slice_range, Option, Some, None, option_map, Bool, not, nat_eq, nat_lt, nat_le, ◌&&◌, ◌||◌, if◌then◌else◌}
use Rattle.std.specs.List.{list_all}
use Rattle.ether_filter.specs.Numerals.{digits_in}

-- ---- the calendar

-- every fourth year is a leap year, except for every hundredth that is not a four hundredth
abbrev pub is_leap_year : ℕ → Bool
is_leap_year y = nat_eq (y % 4) 0 && (not (nat_eq (y % 100) 0) || nat_eq (y % 400) 0)

-- the number of days of each month of a year
abbrev pub month_lens : (leap : Bool) → List ℕ
month_lens leap = 31 ∷ (if leap then 29 else 28) ∷ 31 ∷ 30 ∷ 31 ∷ 30 ∷ 31 ∷ 31 ∷ 30 ∷ 31 ∷ 30 ∷ 31 ∷ []

abbrev pub sum : List ℕ → ℕ
sum [] = 0
sum (n ∷ ns) = n + sum ns

-- the number of days of a year before a month
abbrev pub days_before_month : (leap : Bool) → (month : ℕ) → ℕ
days_before_month leap month = sum (take (month - 1) (month_lens leap))

-- the number of days from 1 January of the year 1 to 1 January of a year
abbrev pub days_before_year : ℕ → ℕ
days_before_year y = let years = y - 1 in 365 * years + (years / 4 - years / 100 + years / 400)

-- there is such a date, and 64 bits have the nanoseconds from 1970 to it
abbrev pub is_year : ℕ → Bool
is_year year = nat_le 1970 year && nat_lt year 2554

abbrev pub is_month : ℕ → Bool
is_month month = nat_le 1 month && nat_le month 12

abbrev pub is_day : (year month day : ℕ) → Bool
is_day year month day = nat_le 1 day && nat_le day (slice_index (month_lens (is_leap_year year)) (month - 1))

-- the number of days from the beginning of 1970 to a date
abbrev pub days_in : (year month day : ℕ) → Option ℕ
days_in year month day =
    if is_year year && is_month month
    then (if is_day year month day
    then Some (days_before_year year + days_before_month (is_leap_year year) month + (day - 1) - days_before_year 1970)
    else None)
    else None

-- ---- a text

-- a zero (48), or one of the nine digits after it
abbrev pub is_digit : ℕ → Bool
is_digit c = nat_le 48 c && nat_lt (c - 48) 10

-- the places of the digits in 2026-11-01T00:00:00
abbrev pub date_digits : List ℕ
date_digits = 0 ∷ 1 ∷ 2 ∷ 3 ∷ 5 ∷ 6 ∷ 8 ∷ 9 ∷ 11 ∷ 12 ∷ 14 ∷ 15 ∷ 17 ∷ 18 ∷ []

abbrev pub are_digits : List ℕ → Bool
are_digits text = list_all (λ i. is_digit (slice_index text i)) date_digits

-- the signs between them: two hyphens, a T and two colons
abbrev pub are_signs : List ℕ → Bool
are_signs text =
    list_all (λ i. nat_eq (slice_index text i) 45) (4 ∷ 7 ∷ [])
    && (nat_eq (slice_index text 10) 84 && list_all (λ i. nat_eq (slice_index text i) 58) (13 ∷ 16 ∷ []))

-- the number of the two digits from a place on
abbrev pub two_at : (at : ℕ) → List ℕ → ℕ
two_at at text = (slice_index text at - 48) * 10 + (slice_index text (at + 1) - 48)

abbrev pub is_time : List ℕ → Bool
is_time text = (nat_lt (two_at 11 text) 24 && nat_lt (two_at 14 text) 60) && nat_lt (two_at 17 text) 60

abbrev pub second_of_day : List ℕ → ℕ
second_of_day text = two_at 11 text * 3600 + two_at 14 text * 60 + two_at 17 text

abbrev pub days_at : List ℕ → Option ℕ
days_at text = days_in (two_at 0 text * 100 + two_at 2 text) (two_at 5 text) (two_at 8 text)

-- the number of seconds from the beginning of 1970 to a date and a time of day
abbrev pub seconds_in : List ℕ → Option ℕ
seconds_in text =
    if (are_digits text && are_signs text) && is_time text
    then option_map (λ (days : ℕ). days * 86400 + second_of_day text) (days_at text) else None

-- decimals of the second in nanoseconds: with zeros (48) after them they are nine
abbrev pub nine_digits : List ℕ → List ℕ
nine_digits ds = ds ++ drop (length ds) (codes "000000000")

-- the nanoseconds after the second: none before a Z (90), or one to nine decimals between a point (46) and a Z
abbrev pub decimals_in : List ℕ → Option ℕ
decimals_in text =
    if nat_eq (length text) 1 && nat_eq (slice_index text 0) 90 then Some 0
    else (if (nat_le 3 (length text) && nat_le (length text) 11)
    && (nat_eq (slice_index text 0) 46 && nat_eq (slice_index text (length text - 1)) 90)
    then digits_in 10 (nine_digits (slice_range text 1 (length text - 1))) else None)

-- what is between two quotation marks (34), or the whole word
abbrev pub unquoted : List ℕ → List ℕ
unquoted word =
    if nat_le 2 (length word) && (nat_eq (slice_index word 0) 34 && nat_eq (slice_index word (length word - 1)) 34)
    then slice_range word 1 (length word - 1) else word

abbrev pub nanoseconds_with : Option ℕ → Option ℕ → Option ℕ
nanoseconds_with None decimals = None
nanoseconds_with (Some seconds) None = None
nanoseconds_with (Some seconds) (Some decimals) = Some (seconds * 10 ^ 9 + decimals)

abbrev pub nanoseconds_in : List ℕ → Option ℕ
nanoseconds_in text =
    if nat_lt (length text) 20 then None else nanoseconds_with (seconds_in (take 19 text)) (decimals_in (drop 19 text))

-- the time that a word is, with quotation marks or without, as the nanoseconds since the beginning of 1970
abbrev pub time_in : List ℕ → Option ℕ
time_in word = nanoseconds_in (unquoted word)
