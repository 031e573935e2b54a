-- Values have no byte for which CSV encloses a field.
use Rattle.std.proofs.Common.{◌≡◌, ℕ, zero, suc, ◌+◌, ◌/◌, ◌%◌, ◌^◌, ◌≤◌, List, [], ◌∷◌, ◌++◌, map, Bool, true, false, Some, None, refl, sym, ap, ◌∙◌, arith}
use Rattle.std.specs.Prelude.{◌||◌, ⊤, nat_eq, nat_lt, ◌==◌, codes, if◌then◌else◌}
use Rattle.std.specs.List.{flat_map}
use Rattle.std.specs.Fmt.{decimal, digit_glyph, digits, digits_onto}
use Rattle.std.proofs.lemmas.Bool.{ne_eqb}
use Rattle.etherparse.specs.NumberText.{hex_number}
use Rattle.ether_base.specs.Texts.NumberText.{hex_byte}
use Rattle.ether_output.specs.Decimals.{two_digits}
use Rattle.ether_format.specs.declared.interval.Interval.{Interval}
use Rattle.ether_format.specs.declared.interval.Interval.TheVariants as intervals
use Rattle.ether_format.specs.declared.moment.Moment.{Moment}
use Rattle.ether_format.specs.Counted.{text_in}
use Rattle.ether_format.specs.Csv.{csv_field, csv_value, escaped, has_special, is_special}
use Rattle.ether_format.specs.Members.{Value, Nothing, Number, Protocol, Flag, Bytes, Dotted, Word, Text, Time, Within}
use Rattle.ether_format.specs.Spelling.{colon_text, column_value, date_text, dated_text, day_text, dotted_text, has_date, interval_text, moment_text, nine_digits, seconds_text, up_to}

-- ---- texts without such bytes

either : (p q r s : Bool) → p ≡ false → q ≡ false → r ≡ false → s ≡ false → (p || (q || (r || s))) ≡ false
either p q r s a b c d = λ i. a i || (b i || (c i || d i))

high : (b : ℕ) → 45 ≤ b → is_special b ≡ false
high b le =
    either (nat_eq b 34) (nat_eq b 44) (nat_eq b 13) (nat_eq b 10) (ne_eqb b 34 (λ e. omega (arith, le, e)))
    (ne_eqb b 44 (λ e. omega (arith, le, e)))
    (ne_eqb b 13 (λ e. omega (arith, le, e)))
    (ne_eqb b 10 (λ e. omega (arith, le, e)))

first_false : (p q : Bool) → (p || q) ≡ false → p ≡ false
first_false false q are = refl
first_false true q are = absurd cc

second_false : (p q : Bool) → (p || q) ≡ false → q ≡ false
second_false false q are = are
second_false true q are = absurd cc

or_true : (p q : Bool) → q ≡ true → (p || q) ≡ true
or_true false q is = is
or_true true q is = refl

pub plain_append : (a b : List ℕ) → has_special a ≡ false → has_special b ≡ false → has_special (a ++ b) ≡ false
plain_append [] b one two = two
plain_append (x ∷ a) b one two =
    λ i. first_false (is_special x) (has_special a) one i
    || plain_append a b (second_false (is_special x) (has_special a) one) two i

pub special_after : (a b : List ℕ) → has_special b ≡ true → has_special (a ++ b) ≡ true
special_after [] b is = is
special_after (x ∷ a) b is = or_true (is_special x) (has_special (a ++ b)) (special_after a b is)

-- they are not changed in a field that is enclosed
pub plain_escaped : (text : List ℕ) → has_special text ≡ false → escaped text ≡ text
plain_escaped [] plain = refl
plain_escaped (b ∷ text) plain =
    let own = first_false (is_special b) (has_special text) plain in
    let unquoted = first_false (nat_eq b 34) (nat_eq b 44 || (nat_eq b 13 || nat_eq b 10)) own in
    λ i. (if unquoted i then 34 ∷ 34 ∷ [] else b ∷ [])
    ++ plain_escaped text (second_false (is_special b) (has_special text) plain) i

-- ---- texts of bytes from the hyphen on

abbrev AllHigh : List ℕ → Type 0
AllHigh [] = ⊤
AllHigh (b ∷ bs) = (45 ≤ b) × AllHigh bs

all_plain : (text : List ℕ) → AllHigh text → has_special text ≡ false
all_plain [] all = refl
all_plain (b ∷ bs) all = λ i. high b all.0 i || all_plain bs all.1 i

joined : (a b : List ℕ) → AllHigh a → AllHigh b → AllHigh (a ++ b)
joined [] b one two = two
joined (x ∷ a) b one two = (one.0, joined a b one.1 two)

glyph : (upper : Bool) (d : ℕ) → 45 ≤ digit_glyph upper d
glyph upper d = by (nat_lt d 10) upper
  where
    by : (b u : Bool) → 45 ≤ (if b then 48 + d else (if u then 55 + d else 87 + d))
    by true u = omega arith
    by false true = omega arith
    by false false = omega arith

last_digits : (k n : ℕ) (after : List ℕ) → AllHigh after → AllHigh (digits_onto k 10 false n after)
last_digits zero n after all = all
last_digits (suc k) n after all =
    by (n / 10 == 0)
    (last_digits k (n / 10) (digit_glyph false (n % 10) ∷ after) (glyph false (n % 10), all))
  where
    by : (b : Bool) → AllHigh (digits_onto k 10 false (n / 10) (digit_glyph false (n % 10) ∷ after))
        → AllHigh (if b then digit_glyph false (n % 10) ∷ after else digits_onto k 10 false (n / 10)
        (digit_glyph false (n % 10) ∷ after))
    by true more = (glyph false (n % 10), all)
    by false more = more

decimals : (n : ℕ) → AllHigh (decimal n)
unfolding digits
decimals n = last_digits 64 n [] tt

hexes : (n : ℕ) → AllHigh (hex_number n)
unfolding hex_number
hexes n = (
  omega arith,
  (
    omega arith,
    (
      glyph true (n / 4096),
      (
        glyph true (n / 256 % 16),
        (
          glyph true (n / 16 % 16),
          (glyph true (n % 16), tt),
        ),
      ),
    ),
  ),
)

colons : (bytes : List ℕ) → AllHigh (colon_text bytes)
unfolding colon_text
colons [] = tt
colons (b ∷ bs) = (glyph false (b / 16), (glyph false (b % 16), later bs))
  where
    later : (cs : List ℕ) → AllHigh (flat_map (λ c. codes ":" ++ hex_byte false c) cs)
    later [] = tt
    later (c ∷ cs) = (omega arith, (glyph false (c / 16), (glyph false (c % 16), later cs)))

dots : (bytes : List ℕ) → AllHigh (dotted_text bytes)
unfolding dotted_text
dots [] = tt
dots (b ∷ bs) = joined (decimal b) _ (decimals b) (later bs)
  where
    later : (cs : List ℕ) → AllHigh (flat_map (λ c. codes "." ++ decimal c) cs)
    later [] = tt
    later (c ∷ cs) = joined (codes "." ++ decimal c) _ (omega arith, decimals c) (later cs)

decimal_digits : (ds : List ℕ) → AllHigh (map (λ d. 48 + d) ds)
decimal_digits [] = tt
decimal_digits (d ∷ ds) = (omega arith, decimal_digits ds)

nines : (n : ℕ) → AllHigh (nine_digits n)
unfolding nine_digits
nines n =
    decimal_digits
    (n / 10 ^ 8 % 10 ∷ n / 10 ^ 7 % 10 ∷ n / 10 ^ 6 % 10 ∷ n / 10 ^ 5 % 10 ∷ n / 10 ^ 4 % 10 ∷ n / 10 ^ 3 % 10
    ∷ n / 10 ^ 2 % 10 ∷ n / 10 % 10 ∷ n % 10 ∷ [])

with_pair : (mark n : ℕ) (after : List ℕ) → 45 ≤ mark → AllHigh after
    → AllHigh (mark ∷ (two_digits n ++ after))
with_pair mark n after le all = (le, (omega arith, (omega arith, all)))

dates : (m : Moment) → AllHigh (date_text m)
unfolding date_text
dates m =
    let second = codes ":" ++ two_digits m.second in
    let minute = codes ":" ++ (two_digits m.minute ++ second) in
    let hour = codes "T" ++ (two_digits m.hour ++ minute) in
    let day = codes "-" ++ (two_digits m.day ++ hour) in
    let month = codes "-" ++ (two_digits m.month ++ day) in
    joined (decimal m.year) month (decimals m.year)
    (with_pair 45 m.month day (omega arith)
    (with_pair 45 m.day hour (omega arith)
    (with_pair 84 m.hour minute (omega arith)
    (with_pair 58 m.minute second (omega arith) (with_pair 58 m.second [] (omega arith) tt)))))

with_decimals : (m : Moment) → AllHigh (dated_text m)
unfolding dated_text
with_decimals m =
    joined (date_text m) (codes "." ++ (nine_digits m.nanoseconds ++ codes "Z")) (dates m)
    (omega arith, joined (nine_digits m.nanoseconds) (codes "Z") (nines m.nanoseconds) (omega arith, tt))

in_seconds : (m : Moment) → AllHigh (seconds_text m)
unfolding seconds_text
in_seconds m =
    joined (decimal m.seconds) (codes "." ++ nine_digits m.nanoseconds) (decimals m.seconds)
    (omega arith, nines m.nanoseconds)

moments : (m : Moment) → AllHigh (moment_text m)
unfolding moment_text
moments m = by (has_date m)
  where
    by : (b : Bool) → AllHigh (if b then dated_text m else seconds_text m)
    by true = with_decimals m
    by false = in_seconds m

days : (m : Moment) → AllHigh (day_text m)
unfolding day_text
days m =
    let day = codes "-" ++ two_digits m.day in
    joined (decimal m.year) (codes "-" ++ (two_digits m.month ++ day)) (decimals m.year)
    (with_pair 45 m.month day (omega arith) (with_pair 45 m.day [] (omega arith) tt))

to_interval : (interval : Interval) (m : Moment) → AllHigh (up_to interval m)
to_interval intervals.Minute m =
    let minute = codes ":" ++ (two_digits m.minute ++ codes "Z") in
    joined (day_text m) (codes "T" ++ (two_digits m.hour ++ minute)) (days m)
    (with_pair 84 m.hour minute (omega arith) (with_pair 58 m.minute (codes "Z") (omega arith) (omega arith, tt)))
to_interval intervals.Hour m =
    joined (day_text m) (codes "T" ++ (two_digits m.hour ++ codes "Z")) (days m)
    (with_pair 84 m.hour (codes "Z") (omega arith) (omega arith, tt))
to_interval intervals.Day m = days m

in_interval : (interval : Interval) (m : Moment) → AllHigh (interval_text interval m)
unfolding interval_text
in_interval interval m = by (has_date m)
  where
    by : (b : Bool) → AllHigh (if b then up_to interval m else [])
    by true = to_interval interval m
    by false = tt

-- ---- values

-- a word without such bytes, or another value that is no text
abbrev pub IsPlain : Value → Type 0
IsPlain (Word word) = has_special word ≡ false
IsPlain (Text bytes) = ⊥
IsPlain value = ⊤

pub plain_value : (v : Value) → IsPlain v → has_special (column_value v) ≡ false
plain_value Nothing plain = refl
plain_value (Number n) plain = all_plain (decimal n) (decimals n)
plain_value (Protocol n) plain = all_plain (hex_number n) (hexes n)
plain_value (Flag true) plain = refl
plain_value (Flag false) plain = refl
plain_value (Bytes bytes) plain = all_plain (colon_text bytes) (colons bytes)
plain_value (Dotted bytes) plain = all_plain (dotted_text bytes) (dots bytes)
plain_value (Word word) plain = plain
plain_value (Text bytes) plain = absurd plain
plain_value (Time m) plain = all_plain (moment_text m) (moments m)
plain_value (Within interval m) plain = all_plain (interval_text interval m) (in_interval interval m)

-- .. which CSV has as a row
pub plain_same : (v : Value) → IsPlain v → csv_value v ≡ column_value v
plain_same Nothing plain = refl
plain_same (Number n) plain = refl
plain_same (Protocol n) plain = refl
plain_same (Flag b) plain = refl
plain_same (Bytes bytes) plain = refl
plain_same (Dotted bytes) plain = refl
plain_same (Word word) plain = refl
plain_same (Text bytes) plain = absurd plain
plain_same (Time m) plain = refl
plain_same (Within interval m) plain = refl

-- ---- a field of one value

plain_field : (v : Value) → IsPlain v → column_value v ≡ csv_field (csv_value v)
plain_field v plain =
    ap (λ (b : Bool). if b then codes "\"" ++ (escaped (column_value v) ++ codes "\"") else column_value v)
    (sym (plain_value v plain))
    ∙ ap csv_field (sym (plain_same v plain))

pub other_field : (v : Value) → text_in v ≡ None → column_value v ≡ csv_field (csv_value v)
other_field (Word word) other = absurd cc
other_field (Text bytes) other = absurd cc
other_field Nothing other = plain_field Nothing tt
other_field (Number n) other = plain_field (Number n) tt
other_field (Protocol n) other = plain_field (Protocol n) tt
other_field (Flag b) other = plain_field (Flag b) tt
other_field (Bytes bytes) other = plain_field (Bytes bytes) tt
other_field (Dotted bytes) other = plain_field (Dotted bytes) tt
other_field (Time m) other = plain_field (Time m) tt
other_field (Within interval m) other = plain_field (Within interval m) tt

pub text_field : (v : Value) (text : List ℕ) → text_in v ≡ Some text → csv_field text ≡ csv_field (csv_value v)
text_field (Word word) text is = let same : word ≡ text = cc in ap csv_field (sym same)
text_field (Text bytes) text is = let same : bytes ≡ text = cc in ap csv_field (sym same)
text_field Nothing text is = absurd cc
text_field (Number n) text is = absurd cc
text_field (Protocol n) text is = absurd cc
text_field (Flag b) text is = absurd cc
text_field (Bytes bytes) text is = absurd cc
text_field (Dotted bytes) text is = absurd cc
text_field (Time m) text is = absurd cc
text_field (Within interval m) text is = absurd cc
