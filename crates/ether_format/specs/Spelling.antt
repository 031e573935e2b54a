-- How values are spelled.
use Rattle.std.specs.Prelude.{ℕ, ◌&&◌, ◌/◌, ◌%◌, ◌^◌, ◌+◌, List, [], ◌∷◌, ◌++◌, codes, Bool, true, false, nat_eq, nat_lt, not, if◌then◌else◌}
use Rattle.std.specs.List.{flat_map}
use Rattle.std.specs.Fmt.{decimal}
use Rattle.std.specs.Str.{is_utf8}
use Rattle.etherparse.specs.NumberText.{hex_number}
use Rattle.ether_base.specs.Texts.NumberText.{hex_byte}
use Rattle.ether_output.specs.Decimals.{two_digits}
use Rattle.ether_format.specs.declared.moment.Moment.{Moment}
use Rattle.ether_format.specs.declared.interval.Interval.{Interval}
use Rattle.ether_format.specs.declared.interval.Interval.TheVariants as intervals
use Rattle.ether_format.specs.Members.{Value, Nothing, Number, Protocol, Flag, Bytes, Dotted, Word, Text, Time, Within}

-- bytes in two hexadecimal digits each, with a colon between two
unfoldable pub colon_text : List ℕ → List ℕ
colon_text [] = []
colon_text (b ∷ bs) = hex_byte false b ++ flat_map (λ c. codes ":" ++ hex_byte false c) bs

-- bytes in decimal digits, with a dot between two (RFC 1123, 2.1)
unfoldable pub dotted_text : List ℕ → List ℕ
dotted_text [] = []
dotted_text (b ∷ bs) = decimal b ++ flat_map (λ c. codes "." ++ decimal c) bs

-- a number below a thousand million as nine decimal digits
unfoldable pub nine_digits : ℕ → List ℕ
nine_digits n =
    (48 + n / 10 ^ 8 % 10) ∷ (48 + n / 10 ^ 7 % 10) ∷ (48 + n / 10 ^ 6 % 10) ∷ (48 + n / 10 ^ 5 % 10)
    ∷ (48 + n / 10 ^ 4 % 10)
    ∷ (48 + n / 10 ^ 3 % 10) ∷ (48 + n / 10 ^ 2 % 10) ∷ (48 + n / 10 % 10) ∷ (48 + n % 10) ∷ []

-- the date of a moment as in ISO 8601 (RFC 3339, 5.6)
unfoldable pub day_text : Moment → List ℕ
day_text m = decimal m.year ++ (codes "-" ++ two_digits m.month ++ codes "-" ++ two_digits m.day)

-- .. with the time of day
unfoldable pub date_text : Moment → List ℕ
date_text m =
    decimal m.year
    ++ (codes "-" ++ two_digits m.month ++ codes "-" ++ two_digits m.day ++ codes "T" ++ two_digits m.hour ++ codes ":"
    ++ two_digits m.minute ++ codes ":" ++ two_digits m.second)

-- .. with nine decimals
unfoldable pub dated_text : Moment → List ℕ
dated_text m = date_text m ++ (codes "." ++ (nine_digits m.nanoseconds ++ codes "Z"))

-- the seconds since the beginning of 1970, with nine decimals
unfoldable pub seconds_text : Moment → List ℕ
seconds_text m = decimal m.seconds ++ (codes "." ++ nine_digits m.nanoseconds)

-- the year has at most four digits: RFC 3339 (5.6) has no date for a later one, and ISO 8601 only by agreement
abbrev pub has_date : Moment → Bool
has_date m = nat_lt m.year 10000

-- a moment as a date, or if it has none, as its seconds
unfoldable pub moment_text : Moment → List ℕ
moment_text m = if has_date m then dated_text m else seconds_text m

-- a date up to the minute, the hour or the day; a moment without a date has none
abbrev pub up_to : Interval → Moment → List ℕ
up_to intervals.Minute m =
    day_text m ++ (codes "T" ++ two_digits m.hour ++ codes ":" ++ two_digits m.minute ++ codes "Z")
up_to intervals.Hour m = day_text m ++ (codes "T" ++ two_digits m.hour ++ codes "Z")
up_to intervals.Day m = day_text m

unfoldable pub interval_text : Interval → Moment → List ℕ
interval_text interval m = if has_date m then up_to interval m else []

-- ---- in JSON (RFC 8259, 3)

abbrev pub quoted : List ℕ → List ℕ
quoted text = codes "\"" ++ (text ++ codes "\"")

-- a date is a text, and seconds are a number
unfoldable pub json_moment : Moment → List ℕ
json_moment m = if has_date m then quoted (dated_text m) else seconds_text m

-- A text: quotation mark, backslash and control characters are escaped (7). Each byte above 127 of a text that is not
-- UTF-8 is the replacement character of Unicode.
abbrev pub json_byte : (utf8 : Bool) → ℕ → List ℕ
json_byte utf8 b =
    if nat_eq b 34 then codes "\\\""
    else (if nat_eq b 92 then codes "\\\\"
    else (if nat_lt b 32 then codes "\\u00" ++ hex_byte false b
    else (if nat_lt 127 b && not utf8 then codes "\\ufffd" else b ∷ [])))

unfoldable pub json_text : List ℕ → List ℕ
json_text bytes = quoted (flat_map (json_byte (is_utf8 bytes)) bytes)

abbrev pub flag_text : Bool → List ℕ
flag_text true = codes "true"
flag_text false = codes "false"

abbrev pub json_value : Value → List ℕ
json_value Nothing = codes "null"
json_value (Number n) = decimal n
json_value (Protocol n) = decimal n
json_value (Flag b) = flag_text b
json_value (Bytes bytes) = quoted (colon_text bytes)
json_value (Dotted bytes) = quoted (dotted_text bytes)
json_value (Word word) = quoted word
json_value (Text bytes) = json_text bytes
json_value (Time m) = json_moment m
json_value (Within interval m) = quoted (interval_text interval m)

-- ---- in a column; what a header does not have is empty

-- a text: tab, line feed, carriage return and backslash are escaped
abbrev pub row_byte : ℕ → List ℕ
row_byte b =
    if nat_eq b 9 then codes "\\t"
    else (if nat_eq b 10 then codes "\\n"
    else (if nat_eq b 13 then codes "\\r" else (if nat_eq b 92 then codes "\\\\" else b ∷ [])))

unfoldable pub row_escaped : List ℕ → List ℕ
row_escaped bytes = flat_map row_byte bytes

abbrev pub column_value : Value → List ℕ
column_value Nothing = []
column_value (Number n) = decimal n
column_value (Protocol n) = hex_number n
column_value (Flag b) = flag_text b
column_value (Bytes bytes) = colon_text bytes
column_value (Dotted bytes) = dotted_text bytes
column_value (Word word) = word
column_value (Text bytes) = row_escaped bytes
column_value (Time m) = moment_text m
column_value (Within interval m) = interval_text interval m
