-- The text of a time means the time.
use Rattle.std.proofs.Common.{◌≡◌, ℕ, zero, suc, ◌+◌, ◌-◌, ◌*◌, ◌/◌, ◌%◌, ◌^◌, ◌<◌, ◌≤◌, Bool, true, false, ◌&&◌, List, [], ◌∷◌, ◌++◌, length, take, decimal, Option, Some, None, option_map, Ok, Err, refl, ap, ◌∙◌, arith}
use Rattle.std.proofs.lemmas.Bool.{le-leb, lt-ltb}
use Rattle.std.proofs.lemmas.Fmt.{decimal_digit, decimal_step}
use native.Mathlib.Numerals.{unary_clauses}
use Rattle.std.specs.Float.{binary64}
use Rattle.std.specs.Float.Numeral.{nearest_float}
use Rattle.std.specs.Prelude.{slice_index, if◌then◌else◌, IfSome}
use Rattle.serde_json.specs.Data.{float, number, string}
use Rattle.ether_pcap.specs.Capture.{TimeValue}
use Rattle.ether_format.specs.declared.moment.Moment.{Moment}
use Rattle.ether_format.specs.Calendar.{AreMoments, IsMoment, is_leap_year, month_lens}
use Rattle.ether_format.specs.Calendar as calendar
use Rattle.ether_format.specs.Members.{Time, if_some}
use Rattle.ether_format.specs.Spelling.{dated_text, date_text, nine_digits, has_date}
use Rattle.ether_make.specs.FrameLaws.{InCapture, time_or_1970}
use Rattle.ether_make.specs.Objects.{not_null}
use Rattle.ether_make.specs.PacketData.{seconds_parts, value_data}
use Rattle.ether_make.specs.Times.{are_digits, days_before_month, days_before_year, decimals_in, fraction_in, in_capture, is_date, is_digit, is_moment, is_time_of_day, seconds_before_1970, seconds_of, sum, time, time_at, time_in, two_at, with_decimals, year_of}
use Rattle.ether_make.specs.declared.refusal.Reason.TheVariants as reasons
use Rattle.ether_make.proofs.JsonFits.{Each}

both : (a b : Bool) → a ≡ true → b ≡ true → (a && b) ≡ true
both a b h k = λ i. h i && k i

-- ---- decimal digits

digit_ok : (d : ℕ) → d < 10 → is_digit (48 + d) ≡ true
digit_ok d h = both _ _ (le-leb 48 (48 + d) (omega arith)) (lt-ltb (48 + d - 48) 10 (omega arith))

four_digits : (y : ℕ) → 1000 ≤ y → y < 10000
    → decimal y ≡ (48 + y / 10 / 10 / 10) ∷ (48 + y / 10 / 10 % 10) ∷ (48 + y / 10 % 10) ∷ (48 + y % 10) ∷ []
four_digits y low high =
    decimal_step y (omega arith) (omega arith)
    ∙ ap (λ l. l ++ (48 + y % 10) ∷ [])
    (decimal_step (y / 10) (omega arith) (omega arith)
    ∙ ap (λ l. l ++ (48 + y / 10 % 10) ∷ [])
    (decimal_step (y / 10 / 10) (omega arith) (omega arith)
    ∙ ap (λ l. l ++ (48 + y / 10 / 10 % 10) ∷ []) (decimal_digit (y / 10 / 10 / 10) (omega arith))))

-- ---- decimals of a second

one_more : (unit d k : ℕ) (cs : List ℕ) → d < 10 → fraction_in (unit / 10) cs ≡ Some k
    → fraction_in unit ((48 + d) ∷ cs) ≡ Some (d * unit + k)
one_more unit d k cs h rest =
    let same : 48 + d - 48 ≡ d = omega arith in
    (λ i. if digit_ok d h i then option_map (λ (later : ℕ). (48 + d - 48) * unit + later) (rest i) else None)
    ∙ ap (λ e. Some (e * unit + k)) same

abbrev fraction_cells : ℕ → List ℕ
fraction_cells n =
    (48 + n / 10 ^ 8 % 10) ∷ (48 + n / 10 ^ 7 % 10) ∷ (48 + n / 10 ^ 6 % 10) ∷ (48 + n / 10 ^ 5 % 10)
    ∷ (48 + n / 10 ^ 4 % 10)
    ∷ (48 + n / 10 ^ 3 % 10) ∷ (48 + n / 10 ^ 2 % 10) ∷ (48 + n / 10 % 10) ∷ (48 + n % 10) ∷ []

fraction_back : (n : ℕ) → n < 10 ^ 9 → fraction_in 100000000 (fraction_cells n) ≡ Some n
fraction_back n small =
    let d0 : n % 10 < 10 = omega arith in
    let d1 : n / 10 % 10 < 10 = omega arith in
    let d2 : n / 10 ^ 2 % 10 < 10 = omega arith in
    let d3 : n / 10 ^ 3 % 10 < 10 = omega arith in
    let d4 : n / 10 ^ 4 % 10 < 10 = omega arith in
    let d5 : n / 10 ^ 5 % 10 < 10 = omega arith in
    let d6 : n / 10 ^ 6 % 10 < 10 = omega arith in
    let d7 : n / 10 ^ 7 % 10 < 10 = omega arith in
    let d8 : n / 10 ^ 8 % 10 < 10 = omega arith in
    let c0 : List ℕ = (48 + n % 10) ∷ [] in
    let c1 : List ℕ = (48 + n / 10 % 10) ∷ c0 in
    let c2 : List ℕ = (48 + n / 10 ^ 2 % 10) ∷ c1 in
    let c3 : List ℕ = (48 + n / 10 ^ 3 % 10) ∷ c2 in
    let c4 : List ℕ = (48 + n / 10 ^ 4 % 10) ∷ c3 in
    let c5 : List ℕ = (48 + n / 10 ^ 5 % 10) ∷ c4 in
    let c6 : List ℕ = (48 + n / 10 ^ 6 % 10) ∷ c5 in
    let c7 : List ℕ = (48 + n / 10 ^ 7 % 10) ∷ c6 in
    let k0 : ℕ = n % 10 * 1 + 0 in
    let k1 : ℕ = n / 10 % 10 * 10 + k0 in
    let k2 : ℕ = n / 10 ^ 2 % 10 * 100 + k1 in
    let k3 : ℕ = n / 10 ^ 3 % 10 * 1000 + k2 in
    let k4 : ℕ = n / 10 ^ 4 % 10 * 10000 + k3 in
    let k5 : ℕ = n / 10 ^ 5 % 10 * 100000 + k4 in
    let k6 : ℕ = n / 10 ^ 6 % 10 * 1000000 + k5 in
    let k7 : ℕ = n / 10 ^ 7 % 10 * 10000000 + k6 in
    let total : n / 10 ^ 8 % 10 * 100000000 + k7 ≡ n = omega arith in
    one_more 100000000 (n / 10 ^ 8 % 10) k7 c7 d8
    (one_more 10000000 (n / 10 ^ 7 % 10) k6 c6 d7
    (one_more 1000000 (n / 10 ^ 6 % 10) k5 c5 d6
    (one_more 100000 (n / 10 ^ 5 % 10) k4 c4 d5
    (one_more 10000 (n / 10 ^ 4 % 10) k3 c3 d4
    (one_more 1000 (n / 10 ^ 3 % 10) k2 c2 d3
    (one_more 100 (n / 10 ^ 2 % 10) k1 c1 d2
    (one_more 10 (n / 10 % 10) k0 c0 d1 (one_more 1 (n % 10) 0 [] d0 refl))))))))
    ∙ ap Some total

decimals_back : (n : ℕ) → n < 10 ^ 9 → decimals_in (46 ∷ (fraction_cells n ++ 90 ∷ [])) ≡ Some n
decimals_back n small = fraction_back n small

-- ---- the calendar

sums_same : (xs : List ℕ) → sum xs ≡ calendar.sum xs
sums_same [] = refl
sums_same (x ∷ xs) = ap (λ n. x + n) (sums_same xs)

sum_low : (most : ℕ) (xs : List ℕ) (k : ℕ) → Each (λ x. x ≤ most) xs → sum (take k xs) ≤ most * length xs
sum_low most [] k h = sum_none k
  where
    sum_none : (j : ℕ) → sum (take j []) ≤ most * 0
    sum_none zero = omega arith
    sum_none (suc j) = omega arith
sum_low most (x ∷ xs) zero h = omega arith
sum_low most (x ∷ xs) (suc k) h =
    let more = sum_low most xs k h.1 in
    let all : most * length (x ∷ xs) ≡ most * length xs + most = simp unary_clauses in
    omega (arith, h.0, more, all)

month_low : (leap : Bool) → Each (λ x. x ≤ 31) (month_lens leap)
month_low true = (
  omega arith,
  (
    omega arith,
    (
      omega arith,
      (
        omega arith,
        (
          omega arith,
          (
            omega arith,
            (
              omega arith,
              (
                omega arith,
                (omega arith, (omega arith, (omega arith, (omega arith, tt)))),
              ),
            ),
          ),
        ),
      ),
    ),
  ),
)
month_low false = (
  omega arith,
  (
    omega arith,
    (
      omega arith,
      (
        omega arith,
        (
          omega arith,
          (
            omega arith,
            (
              omega arith,
              (
                omega arith,
                (omega arith, (omega arith, (omega arith, (omega arith, tt)))),
              ),
            ),
          ),
        ),
      ),
    ),
  ),
)

twelve : (leap : Bool) → length (month_lens leap) ≡ 12
twelve true = refl
twelve false = refl

-- ---- a moment

module _ (t : TimeValue) (m : Moment) (is : IsMoment t m) (fits : InCapture t) where
  abbrev y : ℕ
  y = m.year

  abbrev cells : List ℕ
  cells =
      (48 + y / 10 / 10 / 10) ∷ (48 + y / 10 / 10 % 10) ∷ (48 + y / 10 % 10) ∷ (48 + y % 10) ∷ 45
      ∷ (48 + m.month / 10) ∷ (48 + m.month % 10) ∷ 45 ∷ (48 + m.day / 10) ∷ (48 + m.day % 10) ∷ 84
      ∷ (48 + m.hour / 10) ∷ (48 + m.hour % 10) ∷ 58 ∷ (48 + m.minute / 10) ∷ (48 + m.minute % 10) ∷ 58
      ∷ (48 + m.second / 10) ∷ (48 + m.second % 10) ∷ []

  days_same : days_before_month (is_leap_year y) m.month ≡ calendar.days_before_month (is_leap_year y) m.month
  days_same = sums_same (take (m.month - 1) (month_lens (is_leap_year y)))

  days_low : days_before_month (is_leap_year y) m.month ≤ 372
  days_low =
      let low = sum_low 31 (month_lens (is_leap_year y)) (m.month - 1) (month_low (is_leap_year y)) in
      let n = twelve (is_leap_year y) in
      omega (arith, low, n)

  day_low : m.day ≤ 31
  day_low = omega (
    arith,
    is.date.last_day,
    index_low (month_lens (is_leap_year y)) (m.month - 1) (month_low
        (is_leap_year y)),
  )
    where
      index_low : (xs : List ℕ) (k : ℕ) → Each (λ x. x ≤ 31) xs → slice_index xs k ≤ 31
      index_low [] k h = omega arith
      index_low (x ∷ xs) zero h = h.0
      index_low (x ∷ xs) (suc k) h = index_low xs k h.1

  year_high : y < 10000
  year_high = omega (arith, is.date.is_sum, fits.0)

  year_low : 1000 ≤ y
  year_low = omega (arith, is.date.is_sum, days_same, days_low, day_low)

  text_is : dated_text m ≡ cells ++ (46 ∷ (fraction_cells m.nanoseconds ++ 90 ∷ []))
  unfolding dated_text date_text nine_digits
  text_is =
      ap (λ l. (l ++ (45 ∷ (48 + m.month / 10) ∷ (48 + m.month % 10) ∷ 45 ∷ (48 + m.day / 10) ∷ (48 + m.day % 10) ∷ 84
      ∷ (48 + m.hour / 10) ∷ (48 + m.hour % 10) ∷ 58 ∷ (48 + m.minute / 10) ∷ (48 + m.minute % 10) ∷ 58
      ∷ (48 + m.second / 10) ∷ (48 + m.second % 10) ∷ [])) ++ (46 ∷ (fraction_cells m.nanoseconds ++ 90 ∷ [])))
      (four_digits y year_low year_high)

  year_is : year_of cells ≡ y
  year_is = omega arith

  month_is : two_at 5 cells ≡ m.month
  month_is = omega arith

  day_is : two_at 8 cells ≡ m.day
  day_is = omega arith

  hour_is : two_at 11 cells ≡ m.hour
  hour_is = omega arith

  minute_is : two_at 14 cells ≡ m.minute
  minute_is = omega arith

  second_is : two_at 17 cells ≡ m.second
  second_is = omega arith

  digits_ok : are_digits cells ≡ true
  digits_ok =
      both _ _ (digit_ok (y / 10 / 10 / 10) (omega (arith, year_high)))
      (both _ _ (digit_ok (y / 10 / 10 % 10) (omega arith))
      (both _ _ (digit_ok (y / 10 % 10) (omega arith))
      (both _ _ (digit_ok (y % 10) (omega arith))
      (both _ _ (digit_ok (m.month / 10) (omega (arith, is.date.last_month)))
      (both _ _ (digit_ok (m.month % 10) (omega arith))
      (both _ _ (digit_ok (m.day / 10) (omega (arith, day_low)))
      (both _ _ (digit_ok (m.day % 10) (omega arith))
      (both _ _ (digit_ok (m.hour / 10) (omega (arith, is.hour.hours)))
      (both _ _ (digit_ok (m.hour % 10) (omega arith))
      (both _ _ (digit_ok (m.minute / 10) (omega (arith, is.hour.minutes)))
      (both _ _ (digit_ok (m.minute % 10) (omega arith))
      (both _ _ (digit_ok (m.second / 10) (omega (arith, is.hour.seconds_left)))
      (both _ _ (digit_ok (m.second % 10) (omega arith)) refl)))))))))))))

  date_ok : is_date cells ≡ true
  date_ok =
      let same : slice_index (month_lens (is_leap_year (year_of cells))) (two_at 5 cells - 1)
      ≡ slice_index (month_lens (is_leap_year y)) (m.month - 1) =
      λ i. slice_index (month_lens (is_leap_year (year_is i))) (month_is i - 1) in
      both _ _ (both _ _ (le-leb 1 (two_at 5 cells) (omega (arith, month_is, is.date.first_month)))
      (le-leb (two_at 5 cells) 12 (omega (arith, month_is, is.date.last_month))))
      (both _ _ (le-leb 1 (two_at 8 cells) (omega (arith, day_is, is.date.first_day)))
      (le-leb (two_at 8 cells) _ (omega (arith, day_is, same, is.date.last_day))))

  time_of_day_ok : is_time_of_day cells ≡ true
  time_of_day_ok =
      both _ _ (both _ _ (lt-ltb (two_at 11 cells) 24 (omega (arith, hour_is, is.hour.hours)))
      (lt-ltb (two_at 14 cells) 60 (omega (arith, minute_is, is.hour.minutes))))
      (lt-ltb (two_at 17 cells) 60 (omega (arith, second_is, is.hour.seconds_left)))

  moment_ok : is_moment cells ≡ true
  moment_ok = both _ _ (both _ _ digits_ok refl) (both _ _ date_ok time_of_day_ok)

  seconds_are : seconds_of cells ≡ seconds_before_1970 + t.seconds
  seconds_are =
      let days = days_before_year y + days_before_month (is_leap_year y) m.month + (m.day - 1) in
      let left : days * 86400 + (m.hour * 3600 + m.minute * 60 + m.second) ≡ seconds_before_1970 + t.seconds = omega
      (arith, is.date.is_sum, is.hour.is_sum, days_same) in
      (λ i. (days_before_year (year_is i) + days_before_month (is_leap_year (year_is i)) (month_is i)
      + (day_is i - 1)) * 86400
      + (hour_is i * 3600 + minute_is i * 60 + second_is i))
      ∙ left

  in_capture_is : in_capture (seconds_before_1970 + t.seconds) m.nanoseconds
      ≡ Ok (record { seconds = t.seconds; nanoseconds = m.nanoseconds })
  in_capture_is =
      let before = seconds_before_1970 in
      let same : before + t.seconds - before ≡ t.seconds = omega arith in
      rw (
        le-leb before (before + t.seconds) (omega arith),
        lt-ltb (before + t.seconds - before) (2 ^ 32) (omega (arith, fits.0)),
      )
      (ap (λ s. Ok (record { seconds = s; nanoseconds = m.nanoseconds })) same)

  pub moment_back : time_in (dated_text m) ≡ Ok (record { seconds = t.seconds; nanoseconds = t.nanoseconds })
  moment_back =
      let small : m.nanoseconds < 10 ^ 9 = omega (arith, is.nanoseconds, fits.1) in
      ap time_in text_is
      ∙ (λ i. time_at cells (decimals_back m.nanoseconds small i))
      ∙ ap (λ b. if b then with_decimals (seconds_of cells) (Some m.nanoseconds) else Err reasons.NotATime) moment_ok
      ∙ ap (λ s. in_capture s m.nanoseconds) seconds_are
      ∙ in_capture_is
      ∙ ap (λ n. Ok (record { seconds = t.seconds; nanoseconds = n })) is.nanoseconds

  pub dated : has_date m ≡ true
  dated = lt-ltb y 10000 year_high

pub time_back : (t : Option TimeValue) (m : Option Moment) → AreMoments t m → IfSome t InCapture
    → time (not_null (Some (value_data (if_some Time m)))) ≡ Ok (time_or_1970 t)
time_back None None is fits = refl
time_back None (Some m) is fits = absurd is
time_back (Some t) None is fits = absurd is
time_back (Some t) (Some m) is fits =
    ap (λ b. time (not_null (Some (if b then string (dated_text m)
    else number (float (nearest_float binary64 false (seconds_parts m))))))) (dated t m is fits)
    ∙ moment_back t m is fits
