-- The text of a value is that of its JSON.
use Rattle.std.proofs.Common.{◌≡◌, ℕ, zero, suc, ◌+◌, ◌/◌, ◌%◌, ◌^◌, ◌<◌, ◌≤◌, Bool, true, false, cond, List, [], ◌∷◌, ◌++◌, codes, length, get_or, decimal, refl, sym, ap, ap₂, arith, append-nil}
use Rattle.std.proofs.lemmas.Fmt.{decimal_by_steps, decimal_is_IsNumeral, decimal_nonempty, decimal_digit, first_decimal}
use Rattle.std.proofs.lemmas.Bool.{ltb-true, true≢false}
use Rattle.std.specs.Char.{digit_value}
use Rattle.std.specs.Fmt.{digit_glyph}
use Rattle.std.specs.Str.Parse.{AllDigits}
use Rattle.std.specs.Float.Numeral.{Parts, IsWellFormed}
use Rattle.json.specs.Token as tokens_of
use Rattle.json.specs.Word.{word}
use Rattle.json.specs.Lex.{token, lex}
use Rattle.json.specs.Print.{IsNumber}
use Rattle.json.specs.Json.{Json, null, boolean, number, string}
use Rattle.json.proofs.Printed.Decimals.{IsNumber-decimal}
use Rattle.json.proofs.Printed.Floats.{IsNumber-plain}
use Rattle.json.proofs.Printed.Numbers.{lex-number, in_word-ended}
use Rattle.ether_format.specs.declared.moment.Moment.{Moment}
use Rattle.ether_format.specs.Members.{Value, Nothing, Number, Protocol, Flag, Bytes, Dotted, Word, Text, Time, Within}
use Rattle.ether_base.specs.Texts.NumberText.{hex_byte}
use Rattle.ether_format.specs.Spelling.{nine_digits, colon_text, dotted_text, date_text, dated_text, seconds_text, has_date, json_moment, json_value, flag_text, quoted}
use Rattle.ether_make.specs.PacketJson.{moment_json, value_json}
use Rattle.ether_make.proofs.JsonFits.{Each, IsPlainByte, ArePlain, FitsMoment, FitsValue}
use Rattle.ether_make.proofs.JsonLexemes.{Spells}
use Rattle.ether_make.proofs.JsonStrings.{Passes-plain, ArePlain-nil, ArePlain-cons, ArePlain-append, ArePlain-flat_map, lex-quoted, lex-json_text}

-- ---- texts of plain characters

digit_plain : (n : ℕ) → n < 10 → IsPlainByte (48 + n)
digit_plain n h = (omega arith, omega arith, λ e. omega arith, λ e. omega arith)

pub ArePlain-decimal : (n : ℕ) → n < 2 ^ 64 → ArePlain (decimal n)
ArePlain-decimal n h =
    decimal_by_steps (λ m ds. ArePlain ds) (λ m small. ArePlain-cons _ _ (digit_plain m small) ArePlain-nil)
    (λ m ds big k. ArePlain-append ds _ k (ArePlain-cons _ _ (digit_plain (m % 10) (omega arith)) ArePlain-nil)) n h

glyph_plain : (d : ℕ) → d < 16 → IsPlainByte (digit_glyph false d)
glyph_plain d h = (grind arith, grind arith, λ e. grind arith, λ e. grind arith)

pub ArePlain-hex_byte : (b : ℕ) → b < 256 → ArePlain (hex_byte false b)
ArePlain-hex_byte b h =
    ArePlain-cons _ _ (glyph_plain (b / 16) (omega arith))
    (ArePlain-cons _ _ (glyph_plain (b % 16) (omega arith)) ArePlain-nil)

colon_plain : IsPlainByte 58
colon_plain = (omega arith, omega arith, λ e. omega arith, λ e. omega arith)

dot_plain : IsPlainByte 46
dot_plain = (omega arith, omega arith, λ e. omega arith, λ e. omega arith)

pub ArePlain-colon_text : (bs : List ℕ) → Each (λ b. b < 256) bs → ArePlain (colon_text bs)
unfolding colon_text
ArePlain-colon_text [] h = ArePlain-nil
ArePlain-colon_text (b ∷ bs) h =
    ArePlain-append (hex_byte false b) _ (ArePlain-hex_byte b h.0)
    (ArePlain-flat_map (λ c. codes ":" ++ hex_byte false c) (λ c. c < 256)
    (λ c k. ArePlain-cons 58 _ colon_plain (ArePlain-hex_byte c k)) bs h.1)

pub ArePlain-dotted_text : (bs : List ℕ) → Each (λ b. b < 256) bs → ArePlain (dotted_text bs)
unfolding dotted_text
ArePlain-dotted_text [] h = ArePlain-nil
ArePlain-dotted_text (b ∷ bs) h =
    ArePlain-append (decimal b) _ (ArePlain-decimal b (omega (arith, h.0)))
    (ArePlain-flat_map (λ c. codes "." ++ decimal c) (λ c. c < 256)
    (λ c k. ArePlain-cons 46 _ dot_plain (ArePlain-decimal c (omega (arith, k)))) bs h.1)

-- ---- moments

-- the two digits of a number below a hundred
abbrev two_digits : ℕ → List ℕ
two_digits n = (48 + n / 10) ∷ (48 + n % 10) ∷ []

two_plain : (n : ℕ) → n < 100 → ArePlain (two_digits n)
two_plain n h =
    ArePlain-cons _ _ (digit_plain (n / 10) (omega arith))
    (ArePlain-cons _ _ (digit_plain (n % 10) (omega arith)) ArePlain-nil)

last_plain : (n : ℕ) → IsPlainByte (48 + n % 10)
last_plain n = digit_plain (n % 10) (omega arith)

nine_plain : (n : ℕ) → ArePlain (nine_digits n)
unfolding nine_digits
nine_plain n =
    ArePlain-cons _ _ (last_plain (n / 10 ^ 8)) (ArePlain-cons _ _ (last_plain (n / 10 ^ 7))
    (ArePlain-cons _ _ (last_plain (n / 10 ^ 6)) (ArePlain-cons _ _ (last_plain (n / 10 ^ 5))
    (ArePlain-cons _ _ (last_plain (n / 10 ^ 4)) (ArePlain-cons _ _ (last_plain (n / 10 ^ 3))
    (ArePlain-cons _ _ (last_plain (n / 10 ^ 2)) (ArePlain-cons _ _ (last_plain (n / 10))
    (ArePlain-cons _ _ (last_plain n) ArePlain-nil))))))))

one_plain : (b : ℕ) → 45 ≤ b → b < 91 → ArePlain (b ∷ [])
one_plain b l h = ArePlain-cons b [] (omega arith, omega arith, λ e. omega arith, λ e. omega arith) ArePlain-nil

module _ (m : Moment) (fits : FitsMoment m) (year : m.year < 10000) where
  ArePlain-date_text : ArePlain (date_text m)
  unfolding date_text
  ArePlain-date_text =
      ArePlain-append (decimal m.year) _ (ArePlain-decimal m.year (omega arith))
      (ArePlain-append (codes "-") _ (one_plain 45 (omega arith) (omega arith))
      (ArePlain-append (two_digits m.month) _ (two_plain m.month fits.month)
      (ArePlain-append (codes "-") _ (one_plain 45 (omega arith) (omega arith))
      (ArePlain-append (two_digits m.day) _ (two_plain m.day fits.day)
      (ArePlain-append (codes "T") _ (one_plain 84 (omega arith) (omega arith))
      (ArePlain-append (two_digits m.hour) _ (two_plain m.hour fits.hour)
      (ArePlain-append (codes ":") _ (one_plain 58 (omega arith) (omega arith))
      (ArePlain-append (two_digits m.minute) _ (two_plain m.minute fits.minute)
      (ArePlain-append (codes ":") _ (one_plain 58 (omega arith) (omega arith))
      (two_plain m.second fits.second))))))))))

  pub ArePlain-dated_text : ArePlain (dated_text m)
  unfolding dated_text
  ArePlain-dated_text =
      ArePlain-append (date_text m) _ ArePlain-date_text
      (ArePlain-append (codes ".") _ (one_plain 46 (omega arith) (omega arith))
      (ArePlain-append (nine_digits m.nanoseconds) _ (nine_plain m.nanoseconds)
      (one_plain 90 (omega arith) (omega arith))))

-- ---- seconds, as a number with a fraction

pub ArePlain-seconds_text : (m : Moment) → FitsMoment m → ArePlain (seconds_text m)
unfolding seconds_text
ArePlain-seconds_text m fits =
    ArePlain-append (decimal m.seconds) _ (ArePlain-decimal m.seconds fits.seconds)
    (ArePlain-append (codes ".") _ (one_plain 46 (omega arith) (omega arith)) (nine_plain m.nanoseconds))

no_leading_zero : (n : ℕ) → n < 2 ^ 64 → get_or (decimal n) 0 0 ≡ 48 → length (decimal n) ≡ 1
no_leading_zero zero h e = ap length (decimal_digit 0 (omega arith))
no_leading_zero (suc n) h e = let more = first_decimal (suc n) (omega arith) h in absurd (omega arith)

last_digit : (n : ℕ) → digit_value (48 + n % 10) < 10
last_digit n = let small : n % 10 < 10 = omega arith in grind arith

pub nine_are_digits : (n : ℕ) → AllDigits 10 (nine_digits n)
unfolding nine_digits
nine_are_digits n = (
  last_digit (n / 10 ^ 8),
  (
    last_digit (n / 10 ^ 7),
    (
      last_digit (n / 10 ^ 6),
      (
        last_digit (n / 10 ^ 5),
        (
          last_digit (n / 10 ^ 4),
          (last_digit (n / 10 ^ 3), (last_digit (n / 10 ^ 2), (last_digit (n / 10), (last_digit n, tt)))),
        ),
      ),
    ),
  ),
)

pub length-nine : (n : ℕ) → length (nine_digits n) ≡ 9
unfolding nine_digits
length-nine n = refl

-- the text of these digits, as `text_of` has it
pub is_seconds_text : (m : Moment) → seconds_text m ≡ decimal m.seconds ++ ((46 ∷ nine_digits m.nanoseconds) ++ [])
unfolding seconds_text
is_seconds_text m = ap (λ l. decimal m.seconds ++ (46 ∷ l)) (sym (append-nil (nine_digits m.nanoseconds)))

IsNumber-seconds_text : (m : Moment) → m.seconds < 2 ^ 64 → IsNumber (seconds_text m)
unfolding seconds_text
IsNumber-seconds_text m h =
    let p : Parts = record {
      whole = decimal m.seconds;
      point = true;
      fraction = nine_digits m.nanoseconds;
      exponent_negative = false;
      exponent = [];
      len = length (decimal m.seconds ++ ((46 ∷ nine_digits m.nanoseconds) ++ []));
    } in
    let formed : IsWellFormed p = record {
      whole_digits = (decimal_is_IsNumeral m.seconds h).0.1;
      fraction_digits = nine_are_digits m.nanoseconds;
      exponent_digits = tt;
      no_point = λ e. absurd (true≢false e);
      no_exponent = λ _. refl;
      len_is = refl;
    } in
    IsNumber-plain (seconds_text m) (
      false,
      p,
      ap (λ l. decimal m.seconds ++ (46 ∷ l)) (sym (append-nil (nine_digits m.nanoseconds))),
      record {
        well_formed = formed;
        whole = decimal_nonempty m.seconds h;
        no_leading_zero = no_leading_zero m.seconds h;
        fraction = λ e. omega (arith, length-nine m.nanoseconds);
        marked = λ e. absurd (true≢false e);
      },
    )

-- ---- values

Spells-number : (text : List ℕ) → IsNumber text → Spells text (number text)
Spells-number text h r ended = lex-number text r h ended

Spells-quoted : (text : List ℕ) → ArePlain text → Spells (quoted text) (string text)
Spells-quoted text h r ended = lex-quoted text text r (Passes-plain text h)

Spells-null : Spells (codes "null") null
unfolding lex word
Spells-null r ended = ap₂ (λ b ls. token (cond b tokens_of.null tokens_of.bad) ∷ ls) ended (in_word-ended r ended)

Spells-flag : (b : Bool) → Spells (flag_text b) (boolean b)
unfolding lex word
Spells-flag true r ended =
    ap₂ (λ b ls. token (cond b (tokens_of.boolean true) tokens_of.bad) ∷ ls) ended (in_word-ended r ended)
Spells-flag false r ended =
    ap₂ (λ b ls. token (cond b (tokens_of.boolean false) tokens_of.bad) ∷ ls) ended (in_word-ended r ended)

Spells-if : (t : Bool) (a b : List ℕ) (j k : Json) → (t ≡ true → Spells a j) → Spells b k
    → Spells (cond t a b) (cond t j k)
Spells-if true a b j k h l = h refl
Spells-if false a b j k h l = l

Spells-moment : (m : Moment) → FitsMoment m → Spells (json_moment m) (moment_json m)
unfolding json_moment
Spells-moment m fits =
    Spells-if (has_date m) (quoted (dated_text m)) (seconds_text m) (string (dated_text m)) (number (seconds_text m))
    (λ e. Spells-quoted (dated_text m) (ArePlain-dated_text m fits (ltb-true m.year 10000 e)))
    (Spells-number (seconds_text m) (IsNumber-seconds_text m fits.seconds))

pub Spells-value : (v : Value) → FitsValue v → Spells (json_value v) (value_json v)
Spells-value Nothing h = Spells-null
Spells-value (Number n) h = Spells-number (decimal n) (IsNumber-decimal n h)
Spells-value (Protocol n) h = Spells-number (decimal n) (IsNumber-decimal n h)
Spells-value (Flag b) h = Spells-flag b
Spells-value (Bytes bytes) h = Spells-quoted (colon_text bytes) (ArePlain-colon_text bytes h)
Spells-value (Dotted bytes) h = Spells-quoted (dotted_text bytes) (ArePlain-dotted_text bytes h)
Spells-value (Word text) h = Spells-quoted text h
Spells-value (Text bytes) h = λ r ended. lex-json_text bytes r
Spells-value (Time m) h = Spells-moment m h
Spells-value (Within interval m) h = absurd h
