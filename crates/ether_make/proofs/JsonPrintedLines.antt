-- Each part of a line is UTF-8 without control characters.
use Rattle.std.proofs.Common.{◌≡◌, ℕ, Bool, true, false, cond, List, [], ◌∷◌, ◌++◌, codes, decimal, refl}
use Rattle.std.proofs.lemmas.Bool.{ltb-true}
use Rattle.std.specs.List.{flat_map}
use Rattle.ether_format.specs.declared.moment.Moment.{Moment}
use Rattle.ether_format.specs.Members.{Value, Nothing, Number, Protocol, Flag, Bytes, Dotted, Word, Text, Time, Within, Member}
use Rattle.ether_format.specs.Spelling.{colon_text, dotted_text, dated_text, seconds_text, has_date, json_moment, json_value, flag_text, quoted}
use Rattle.ether_format.specs.Json.{json_member, json_members, json_object, objects_of}
use Rattle.ether_format.specs.Told.{Told}
use Rattle.ether_make.proofs.JsonFits.{Each, ArePlain, FitsMoment, FitsValue, FitsMember}
use Rattle.ether_make.proofs.JsonLines.{FitHeaders, line_of}
use Rattle.ether_make.proofs.JsonPrinted.{IsPrinted, IsPrinted-nil, IsPrinted-append, IsPrinted-ascii, IsPrinted-plain, IsPrinted-quoted, IsPrinted-json_text}
use Rattle.ether_make.proofs.JsonValues.{ArePlain-decimal, ArePlain-colon_text, ArePlain-dotted_text, ArePlain-dated_text, ArePlain-seconds_text}

plain_text : (text : List ℕ) → ArePlain text → IsPrinted (quoted text)
plain_text text h = IsPrinted-quoted text (IsPrinted-plain text h)

flag_printed : (b : Bool) → IsPrinted (flag_text b)
flag_printed true = IsPrinted-ascii (codes "true") refl
flag_printed false = IsPrinted-ascii (codes "false") refl

either : (t : Bool) (a b : List ℕ) → (t ≡ true → IsPrinted a) → IsPrinted b → IsPrinted (cond t a b)
either true a b h k = h refl
either false a b h k = k

moment_printed : (m : Moment) → FitsMoment m → IsPrinted (json_moment m)
unfolding json_moment
moment_printed m fits =
    either (has_date m) (quoted (dated_text m)) (seconds_text m)
    (λ e. plain_text (dated_text m) (ArePlain-dated_text m fits (ltb-true m.year 10000 e)))
    (IsPrinted-plain (seconds_text m) (ArePlain-seconds_text m fits))

value_printed : (v : Value) → FitsValue v → IsPrinted (json_value v)
value_printed Nothing h = IsPrinted-ascii (codes "null") refl
value_printed (Number n) h = IsPrinted-plain (decimal n) (ArePlain-decimal n h)
value_printed (Protocol n) h = IsPrinted-plain (decimal n) (ArePlain-decimal n h)
value_printed (Flag b) h = flag_printed b
value_printed (Bytes bytes) h = plain_text (colon_text bytes) (ArePlain-colon_text bytes h)
value_printed (Dotted bytes) h = plain_text (dotted_text bytes) (ArePlain-dotted_text bytes h)
value_printed (Word text) h = plain_text text h
value_printed (Text bytes) h = IsPrinted-json_text bytes
value_printed (Time m) h = moment_printed m h
value_printed (Within interval m) h = absurd h

member_printed : (m : Member) → FitsMember m → IsPrinted (json_member m)
member_printed m h =
    IsPrinted-append (quoted m.name) _ (plain_text m.name h.name)
    (IsPrinted-append (codes ":") _ (IsPrinted-ascii (codes ":") refl) (value_printed m.value h.value))

-- texts one after another, with a comma before each
later_printed : {X : Type 0} (f : X → List ℕ) (P : X → Type 0) → ((x : X) → P x → IsPrinted (f x)) → (xs : List X)
    → Each P xs → IsPrinted (flat_map (λ x. codes "," ++ f x) xs)
later_printed f P h [] k = IsPrinted-nil
later_printed f P h (x ∷ xs) k =
    IsPrinted-append (codes "," ++ f x) _
    (IsPrinted-append (codes ",") _ (IsPrinted-ascii (codes ",") refl) (h x k.0)) (later_printed f P h xs k.1)

members_printed : (ms : List Member) → Each FitsMember ms → IsPrinted (json_members ms)
members_printed [] h = IsPrinted-nil
members_printed (m ∷ ms) h =
    IsPrinted-append (json_member m) _ (member_printed m h.0)
    (later_printed json_member FitsMember member_printed ms h.1)

object_printed : (ms : List Member) → Each FitsMember ms → IsPrinted (json_object ms)
unfolding json_object
object_printed ms h =
    IsPrinted-append (codes "{") _ (IsPrinted-ascii (codes "{") refl)
    (IsPrinted-append (json_members ms) _ (members_printed ms h) (IsPrinted-ascii (codes "}") refl))

objects_printed : (f : Told → List Member) (hs : List Told) → FitHeaders f hs → IsPrinted (objects_of f hs)
objects_printed f [] h = IsPrinted-nil
objects_printed f (x ∷ hs) h =
    IsPrinted-append (json_object (f x)) _ (object_printed (f x) h.0)
    (later_printed (λ k. json_object (f k)) (λ k. Each FitsMember (f k)) (λ k fit. object_printed (f k) fit) hs h.1)

pub IsPrinted-line : (f : Told → List Member) (packet : List Member) (hs : List Told) (name : List ℕ)
    (end : List Member)
    → Each FitsMember packet → FitHeaders f hs → ArePlain name → Each FitsMember end
    → IsPrinted (line_of f packet hs name end)
unfolding line_of
IsPrinted-line f packet hs name end fit_packet fit_headers plain fit_end =
    IsPrinted-append (codes "{") _ (IsPrinted-ascii (codes "{") refl)
    (IsPrinted-append (json_members packet) _ (members_printed packet fit_packet)
    (IsPrinted-append (codes ",\"headers\":[") _ (IsPrinted-ascii (codes ",\"headers\":[") refl)
    (IsPrinted-append (objects_of f hs) _ (objects_printed f hs fit_headers)
    (IsPrinted-append (codes "],") _ (IsPrinted-ascii (codes "],") refl)
    (IsPrinted-append (quoted name) _ (plain_text name plain)
    (IsPrinted-append (codes ":") _ (IsPrinted-ascii (codes ":") refl)
    (IsPrinted-append (json_object end) _ (object_printed end fit_end) (IsPrinted-ascii (codes "}") refl))))))))
