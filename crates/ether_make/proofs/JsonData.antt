-- The value of a line as the kit's reader has it.
use Rattle.std.proofs.Common.{◌≡◌, ℕ, ◌*◌, ◌^◌, ◌<◌, ◌≤◌, Bool, true, false, cond, List, [], ◌∷◌, ◌++◌, length, get_or, decimal, Some, option_map, option_and_then, refl, sym, ap, ◌∙◌, arith, length-append}
use Rattle.std.proofs.lemmas.Bool.{ne_eqb, lt-ltb, true≢false}
use Rattle.std.proofs.lemmas.Float.Parse.{scan_numeral-text_of}
use Rattle.std.proofs.lemmas.Fmt.{decimal_is_IsNumeral, decimal_nonempty, length-decimal-le}
use Rattle.std.proofs.lemmas.Int.Digits.{digits_value-lt}
use Rattle.std.proofs.Math.Nat.{pow-le-pow_right, one-le-pow}
use Rattle.std.specs.Char.{digit_value}
use Rattle.std.specs.Float.{binary64, float_is_finite}
use Rattle.std.specs.Float.Numeral.{scan_numeral, nearest_float, numeral_digits, tens_up, tens_down, IsWellFormed}
use Rattle.std.specs.Str.Parse.{AllDigits}
use Rattle.json.specs.Json.{Json}
use Rattle.json.specs.Json as json
use Rattle.serde_json.proofs.Numbers.{number_of-decimal}
use Rattle.serde_json.specs.Data.{number, float, string, object, item, Members, no_members, put}
use Rattle.serde_json.specs.Read.{number_of, number_from, float_of, of_json, of_items, of_members}
use Rattle.ether_format.specs.declared.moment.Moment.{Moment}
use Rattle.ether_format.specs.Members.{Value, Nothing, Number, Protocol, Flag, Bytes, Dotted, Word, Text, Time, Within, Member}
use Rattle.ether_format.specs.Spelling.{nine_digits, dated_text, seconds_text, has_date}
use Rattle.ether_format.specs.Told.{Told}
use Rattle.ether_make.specs.PacketData.{seconds_parts, moment_data, value_data, members_into, members_data, headers_data}
use Rattle.ether_make.specs.PacketJson.{moment_json, value_json, members_before, members_json, headers_json}
use Rattle.ether_make.proofs.FloatLemmas.{round_finite}
use Rattle.ether_make.proofs.JsonFits.{Each, FitsValue, FitsMember}
use Rattle.ether_make.proofs.JsonLines.{FitHeaders}
use Rattle.ether_make.proofs.JsonValues.{nine_are_digits, length-nine, is_seconds_text}

-- ---- seconds

first_digit : (ds rest : List ℕ) → AllDigits 10 ds → 0 < length ds → get_or (ds ++ rest) 0 0 ≡ 45 → ⊥
first_digit [] rest h some e = omega arith
first_digit (d ∷ ds) rest h some e = let digit : digit_value d < 10 = h.0 in let is : d ≡ 45 = e in grind arith

digits_append : (a b : List ℕ) → AllDigits 10 a → AllDigits 10 b → AllDigits 10 (a ++ b)
digits_append [] b h k = k
digits_append (d ∷ a) b h k = (h.0, digits_append a b h.1 k)

module _ (m : Moment) (small : m.seconds < 2 ^ 64) where
  abbrev digits : AllDigits 10 (decimal m.seconds)
  digits = (decimal_is_IsNumeral m.seconds small).0.1

  formed : IsWellFormed (seconds_parts m)
  formed = record {
    whole_digits = digits;
    fraction_digits = nine_are_digits m.nanoseconds;
    exponent_digits = tt;
    no_point = λ e. absurd (true≢false e);
    no_exponent = λ _. refl;
    len_is = ap length (is_seconds_text m);
  }

  no_minus : get_or (seconds_text m) 0 0 ≡ 45 → ⊥
  no_minus e =
      first_digit (decimal m.seconds) _ digits (decimal_nonempty m.seconds small)
      (ap (λ l. get_or l 0 0) (sym (is_seconds_text m)) ∙ e)

  few_digits : numeral_digits (seconds_parts m) * 10 ^ tens_up (seconds_parts m) < 2 ^ 128
  few_digits =
      let ds = decimal m.seconds ++ nine_digits m.nanoseconds in
      let few : length ds ≤ 29 = omega (
        arith,
        length-append (decimal m.seconds) (nine_digits m.nanoseconds),
        length-nine m.nanoseconds,
        length-decimal-le 20 m.seconds (omega arith) (omega arith) small,
      ) in
      let ten : 0 < 10 = omega arith in
      let most : 10 ^ length ds ≤ 10 ^ 29 = pow-le-pow_right ten few in
      let all : AllDigits 10 ds = digits_append (decimal m.seconds) _ digits (nine_are_digits m.nanoseconds) in
      omega (arith, digits_value-lt 10 ds all, most)

  finite : float_is_finite (nearest_float binary64 false (seconds_parts m)) ≡ true
  finite = round_finite false _ _ few_digits (one-le-pow (tens_down (seconds_parts m)) 10 (omega arith))

  not_integer : number_from false (seconds_parts m) ≡ float_of false (seconds_parts m)
  not_integer = rw (lt-ltb _ _ (decimal_nonempty m.seconds small)) refl

  seconds_read : number_of (seconds_text m) ≡ Some (float (nearest_float binary64 false (seconds_parts m)))
  unfolding number_of
  seconds_read =
      rw (ne_eqb (get_or (seconds_text m) 0 0) 45 no_minus)
      (ap (number_from false) (ap scan_numeral (is_seconds_text m) ∙ scan_numeral-text_of (seconds_parts m) formed)
      ∙ not_integer ∙ rw finite refl)

moment_read : (m : Moment) → m.seconds < 2 ^ 64 → of_json (moment_json m) ≡ Some (moment_data m)
moment_read m small = either (has_date m)
  where
    either : (t : Bool)
        → of_json (cond t (json.string (dated_text m)) (json.number (seconds_text m)))
        ≡ Some (cond t (string (dated_text m)) (number (float (nearest_float binary64 false (seconds_parts m)))))
    either true = refl
    either false = ap (option_map number) (seconds_read m small)

-- ---- values, and members one after another

value_read : (v : Value) → FitsValue v → of_json (value_json v) ≡ Some (value_data v)
value_read Nothing h = refl
value_read (Number n) h = ap (option_map number) (number_of-decimal n h)
value_read (Protocol n) h = ap (option_map number) (number_of-decimal n h)
value_read (Flag b) h = refl
value_read (Bytes bytes) h = refl
value_read (Dotted bytes) h = refl
value_read (Word word) h = refl
value_read (Text bytes) h = refl
value_read (Time m) h = moment_read m h.seconds
value_read (Within interval m) h = absurd h

pub members_read : (ms : List Member) (rest : json.Members) (found : Members) → Each FitsMember ms
    → of_members (members_before ms rest) found ≡ of_members rest (members_into ms found)
members_read [] rest found h = refl
members_read (m ∷ ms) rest found h =
    ap (option_and_then (λ d. of_members (members_before ms rest) (put m.name d found))) (value_read m.value h.0.value)
    ∙ members_read ms rest (put m.name (value_data m.value) found) h.1

pub object_read : (ms : List Member) → Each FitsMember ms → of_json (members_json ms) ≡ Some (members_data ms)
object_read ms h = ap (option_map object) (members_read ms json.no_members no_members h)

pub headers_read : (f : Told → List Member) (hs : List Told) → FitHeaders f hs
    → of_items (headers_json f hs) ≡ Some (headers_data f hs)
headers_read f [] h = refl
headers_read f (x ∷ hs) h =
    ap (option_and_then (λ d. option_map (item d) (of_items (headers_json f hs)))) (object_read (f x) h.0)
    ∙ ap (option_map (item (members_data (f x)))) (headers_read f hs h.1)
