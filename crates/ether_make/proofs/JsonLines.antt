-- The text of a line is that of its value.
use Rattle.std.proofs.Common.{◌≡◌, ℕ, ◌<◌, true, length, List, [], ◌∷◌, ◌++◌, codes, refl, sym, ap, ◌∙◌, arith, append_assoc}
use Rattle.std.specs.List.{flat_map}
use Rattle.json.specs.Token.{begin_object, end_object, begin_array, end_array}
use Rattle.json.specs.Token as tokens_of
use Rattle.json.specs.Word.{ends_word}
use Rattle.json.specs.Text.{content}
use Rattle.json.specs.Lex.{Lexeme, token, comma, colon, lex, between}
use Rattle.json.specs.Json.{Json, object, array, Items, Members, no_members}
use Rattle.json.specs.Json as json
use Rattle.ether_format.specs.Members.{Member}
use Rattle.ether_format.specs.Spelling.{json_value, quoted}
use Rattle.ether_format.specs.Json.{json_member, json_members, json_object, objects_of}
use Rattle.ether_format.specs.Told.{Told}
use Rattle.ether_make.specs.PacketJson.{value_json, members_before, members_json, headers_json}
use Rattle.ether_make.proofs.JsonFits.{Each, ArePlain, FitsMember}
use Rattle.ether_make.proofs.JsonLexemes.{lexemes, items_lexemes, more_items, members_lexemes, more_members, Spells}
use Rattle.ether_make.proofs.JsonStrings.{Passes-plain, lex-quoted}
use Rattle.ether_make.proofs.JsonValues.{Spells-value}

-- ---- members

key_and : (name r : List ℕ) → ArePlain name
    → lex between (quoted name ++ (58 ∷ r)) ≡ token (tokens_of.string name) ∷ colon ∷ lex between r
unfolding lex
key_and name r h = lex-quoted name name (58 ∷ r) (Passes-plain name h)

lex-member : (m : Member) → FitsMember m → (r : List ℕ) → ends_word r ≡ true
    → lex between (json_member m ++ r)
    ≡ token (tokens_of.string m.name) ∷ colon ∷ (lexemes (value_json m.value) ++ lex between r)
lex-member m h r ended =
    ap (lex between) (append_assoc (quoted m.name) (codes ":" ++ json_value m.value) r)
    ∙ key_and m.name (json_value m.value ++ r) h.name
    ∙ ap (λ ls. token (tokens_of.string m.name) ∷ colon ∷ ls) (Spells-value m.value h.value r ended)

abbrev later : List Member → List ℕ
later ms = flat_map (λ n. codes "," ++ json_member n) ms

later_ends : (ms : List Member) (r : List ℕ) → ends_word r ≡ true → ends_word (later ms ++ r) ≡ true
later_ends [] r h = h
later_ends (m ∷ ms) r h = refl

-- a text with the lexemes of later members, and then others
record Goes (rest : Members) (r : List ℕ) (ls : List Lexeme) : Type 0 where
  ended : ends_word r ≡ true
  is : lex between r ≡ more_members rest ++ ls

lex-later : (ms : List Member) → Each FitsMember ms → (rest : Members) (r : List ℕ) (ls : List Lexeme) → Goes rest r ls
    → lex between (later ms ++ r) ≡ more_members (members_before ms rest) ++ ls
unfolding lex
lex-later [] h rest r ls goes = goes.is
lex-later (m ∷ ms) h rest r ls goes =
    let more = members_before ms rest in
    ap (λ l. comma ∷ lex between l) (append_assoc (json_member m) (later ms) r)
    ∙ ap (λ l. comma ∷ l) (lex-member m h.0 (later ms ++ r) (later_ends ms r goes.ended))
    ∙ ap (λ l. comma ∷ token (tokens_of.string m.name) ∷ colon ∷ (lexemes (value_json m.value) ++ l))
    (lex-later ms h.1 rest r ls goes)
    ∙ ap (λ l. comma ∷ token (tokens_of.string m.name) ∷ colon ∷ l)
    (sym (append_assoc (lexemes (value_json m.value)) (more_members more) ls))

-- .. of the members of an object that begins with this one
lex-members : (m : Member) (ms : List Member) → Each FitsMember (m ∷ ms)
    → (rest : Members) (r : List ℕ) (ls : List Lexeme)
    → Goes rest r ls
    → lex between (json_members (m ∷ ms) ++ r) ≡ members_lexemes (members_before (m ∷ ms) rest) ++ ls
lex-members m ms h rest r ls goes =
    let more = members_before ms rest in
    ap (lex between) (append_assoc (json_member m) (later ms) r)
    ∙ lex-member m h.0 (later ms ++ r) (later_ends ms r goes.ended)
    ∙ ap (λ l. token (tokens_of.string m.name) ∷ colon ∷ (lexemes (value_json m.value) ++ l))
    (lex-later ms h.1 rest r ls goes)
    ∙ ap (λ l. token (tokens_of.string m.name) ∷ colon ∷ l)
    (sym (append_assoc (lexemes (value_json m.value)) (more_members more) ls))

Goes-end : (r : List ℕ) → Goes no_members (125 ∷ r) (lex between r)
unfolding lex
Goes-end r = record { ended = refl; is = refl }

Spells-object : (ms : List Member) → Each FitsMember ms → Spells (json_object ms) (members_json ms)
unfolding json_object lex
Spells-object [] h r ended = refl
Spells-object (m ∷ ms) h r ended =
    ap (λ l. lex between (123 ∷ l)) (append_assoc (json_members (m ∷ ms)) (codes "}") r)
    ∙ ap (λ ls. token begin_object ∷ ls) (lex-members m ms h no_members (125 ∷ r) (lex between r) (Goes-end r))

-- ---- the end of a line

-- how the walk ends, after the bracket of the list of headers
abbrev after_headers : (name : List ℕ) → List Member → List ℕ → List ℕ
after_headers name end r = 44 ∷ (quoted name ++ (58 ∷ (json_object end ++ (125 ∷ r))))

lex-after_headers : (name : List ℕ) (end : List Member) (r : List ℕ) → ArePlain name → Each FitsMember end
    → lex between (after_headers name end r)
    ≡ more_members (json.member name (members_json end) no_members) ++ lex between r
unfolding lex
lex-after_headers name end r plain fits =
    ap (λ ls. comma ∷ ls) (key_and name (json_object end ++ (125 ∷ r)) plain)
    ∙ ap (λ ls. comma ∷ token (tokens_of.string name) ∷ colon ∷ ls) (Spells-object end fits (125 ∷ r) refl)
    ∙ ap (λ ls. comma ∷ token (tokens_of.string name) ∷ colon ∷ ls)
    (sym (append_assoc (lexemes (members_json end)) (token end_object ∷ []) (lex between r)))

lex-headers_key : (r : List ℕ) → lex between (codes ",\"headers\":[" ++ r)
    ≡ comma ∷ token (tokens_of.string (codes "headers")) ∷ colon ∷ token begin_array ∷ lex between r
unfolding lex content
lex-headers_key r = refl

-- ---- headers, and the whole line

abbrev later_headers : (Told → List Member) → List Told → List ℕ
later_headers f hs = flat_map (λ k. codes "," ++ json_object (f k)) hs

abbrev pub FitHeaders : (Told → List Member) → List Told → Type 0
FitHeaders f hs = Each (λ h. Each FitsMember (f h)) hs

later_headers_end : (f : Told → List Member) (hs : List Told) (r : List ℕ)
    → ends_word (later_headers f hs ++ (93 ∷ r)) ≡ true
later_headers_end f [] r = refl
later_headers_end f (h ∷ hs) r = refl

lex-later_headers : (f : Told → List Member) (hs : List Told) → FitHeaders f hs → (r : List ℕ)
    → lex between (later_headers f hs ++ (93 ∷ r)) ≡ more_items (headers_json f hs) ++ lex between r
unfolding lex
lex-later_headers f [] fits r = refl
lex-later_headers f (h ∷ hs) fits r =
    let first = f h in
    ap (λ l. comma ∷ lex between l) (append_assoc (json_object first) (later_headers f hs) (93 ∷ r))
    ∙ ap (λ l. comma ∷ l) (Spells-object first fits.0 (later_headers f hs ++ (93 ∷ r)) (later_headers_end f hs r))
    ∙ ap (λ l. comma ∷ (lexemes (members_json first) ++ l)) (lex-later_headers f hs fits.1 r)
    ∙ ap (λ l. comma ∷ l) (sym (append_assoc (lexemes (members_json first)) (more_items (headers_json f hs)) _))

lex-headers : (f : Told → List Member) (hs : List Told) → FitHeaders f hs → (r : List ℕ)
    → lex between (objects_of f hs ++ (93 ∷ r)) ≡ items_lexemes (headers_json f hs) ++ lex between r
unfolding lex
lex-headers f [] fits r = refl
lex-headers f (h ∷ hs) fits r =
    let first = f h in
    ap (lex between) (append_assoc (json_object first) (later_headers f hs) (93 ∷ r))
    ∙ Spells-object first fits.0 (later_headers f hs ++ (93 ∷ r)) (later_headers_end f hs r)
    ∙ ap (λ l. lexemes (members_json first) ++ l) (lex-later_headers f hs fits.1 r)
    ∙ sym (append_assoc (lexemes (members_json first)) (more_items (headers_json f hs)) _)

module _ (f : Told → List Member) (hs : List Told) (name : List ℕ) (end : List Member) where
  -- what follows the members of the packet
  abbrev others : Members
  others = json.member (codes "headers") (array (headers_json f hs)) (json.member name (members_json end) no_members)

  abbrev others_text : List ℕ → List ℕ
  others_text r = codes ",\"headers\":[" ++ (objects_of f hs ++ (93 ∷ after_headers name end r))

  others_append : (r : List ℕ) → others_text [] ++ r ≡ others_text r
  others_append r = simp append_assoc

  module _ (fit_headers : FitHeaders f hs) (plain : ArePlain name) (fit_end : Each FitsMember end) where
    Goes-others : (r : List ℕ) → Goes others (others_text r) (lex between r)
    Goes-others r =
        let items = headers_json f hs in
        let last = json.member name (members_json end) no_members in
        record {
          ended = refl;
          is = lex-headers_key _
              ∙ ap (λ ls. comma ∷ token (tokens_of.string (codes "headers")) ∷ colon ∷ token begin_array ∷ ls)
              (lex-headers f hs fit_headers (after_headers name end r)
              ∙ ap (λ ls. items_lexemes items ++ ls) (lex-after_headers name end r plain fit_end)
              ∙ sym (append_assoc (items_lexemes items) (more_members last) (lex between r)));
        }

-- a line without its line feed
unfoldable pub line_of : (f : Told → List Member) → (packet : List Member) → List Told → (name : List ℕ)
    → (end : List Member) → List ℕ
line_of f packet hs name end =
    codes "{"
    ++ (json_members packet ++ (codes ",\"headers\":[" ++ (objects_of f hs ++ (93 ∷ after_headers name end []))))

-- .. and with it
pub line_feed : (f : Told → List Member) (packet : List Member) (hs : List Told) (name : List ℕ) (end : List Member)
    → (codes "{" ++ (json_members packet ++ codes ",\"headers\":[")) ++ (objects_of f hs
    ++ (codes "]," ++ (quoted name ++ (codes ":" ++ (json_object end ++ codes "}\n")))))
    ≡ line_of f packet hs name end ++ codes "\n"
unfolding line_of
line_feed f packet hs name end = simp append_assoc

pub Spells-line : (f : Told → List Member) (packet : List Member) (hs : List Told) (name : List ℕ)
    (end : List Member) → 0 < length packet
    → Each FitsMember packet → FitHeaders f hs → ArePlain name → Each FitsMember end
    → Spells (line_of f packet hs name end) (object (members_before packet (others f hs name end)))
unfolding line_of lex
Spells-line f [] hs name end some fits fit_headers plain fit_end = absurd (omega arith)
Spells-line f (m ∷ ms) hs name end some fits fit_headers plain fit_end = λ r ended.
    ap (λ l. lex between (123 ∷ l))
    (append_assoc (json_members (m ∷ ms)) (others_text f hs name end []) r
    ∙ ap (λ l. json_members (m ∷ ms) ++ l) (others_append f hs name end r))
    ∙ ap (λ ls. token begin_object ∷ ls)
    (lex-members m ms fits (others f hs name end) (others_text f hs name end r) (lex between r)
    (Goes-others f hs name end fit_headers plain fit_end r))
