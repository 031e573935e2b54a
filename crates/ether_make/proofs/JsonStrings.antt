-- Strings of JSON: what both readers make of each byte.
use Rattle.std.proofs.Common.{◌≡◌, ◌≢◌, ℕ, ◌+◌, ◌*◌, ◌/◌, ◌%◌, ◌<◌, ◌≤◌, ◌&&◌, ◌⊎◌, not, nat_lt, inl, inr, Bool, true, false, cond, List, [], ◌∷◌, ◌++◌, codes, Option, Some, None, refl, sym, ap, ap₂, ◌∙◌, subst, arith, append_assoc, append-nil}
use Rattle.std.proofs.lemmas.Bool.{cases_eq, cases_lt, ne_eqb, le-ltb, lt-ltb, lt-leb, and_right}
use Rattle.std.proofs.lemmas.Str.{encode_ascii}
use Rattle.std.specs.Char.{digit_value, encode_utf8}
use Rattle.std.specs.Fmt.{digit_glyph}
use Rattle.std.specs.List.{flat_map}
use Rattle.std.specs.Str.{is_utf8}
use Rattle.std.specs.Str.Lossy.{replacement_bytes}
use Rattle.json.specs.Token.{Token}
use Rattle.json.specs.Token as tokens_of
use Rattle.json.specs.Text.{content, plain, after_u, prepend, code_unit, short_escape}
use Rattle.json.specs.Word.{is_operator, is_space}
use Rattle.json.specs.Lex.{Lexeme, Mode, token, string_token, lex, lex_byte, between, in_string, operator, space, other}
use Rattle.ether_base.specs.Texts.NumberText.{hex_byte}
use Rattle.ether_format.specs.Spelling.{json_byte, json_text, quoted}
use Rattle.ether_make.specs.PacketJson.{replaced, text_shown}
use Rattle.ether_make.proofs.JsonFits.{Each, IsPlainByte, ArePlain}

-- both readers pass over a piece of a string, and one of them reads these bytes
pub record Passes (piece bytes : List ℕ) : Type 0 where
  pub read : (r : List ℕ) → content plain (piece ++ r) ≡ prepend bytes (content plain r)
  pub lexed : (r : List ℕ) → lex in_string (piece ++ r) ≡ lex in_string r

prepend-nil : (o : Option (List ℕ)) → o ≡ prepend [] o
prepend-nil None = refl
prepend-nil (Some s) = refl

prepend-prepend : (a b : List ℕ) (o : Option (List ℕ)) → prepend a (prepend b o) ≡ prepend (a ++ b) o
prepend-prepend a b None = refl
prepend-prepend a b (Some s) = ap Some (sym (append_assoc a b s))

pub Passes-nil : Passes [] []
Passes-nil = record { read = λ r. prepend-nil (content plain r); lexed = λ r. refl }

pub Passes-append : (p a q b : List ℕ) → Passes p a → Passes q b → Passes (p ++ q) (a ++ b)
Passes-append p a q b h k = record {
  read = λ r.
      ap (content plain) (append_assoc p q r) ∙ h.read (q ++ r) ∙ ap (prepend a) (k.read r) ∙ prepend-prepend a b _;
  lexed = λ r. ap (lex in_string) (append_assoc p q r) ∙ h.lexed (q ++ r) ∙ k.lexed r;
}

pub Passes-flat_map : (f g : ℕ → List ℕ) → ((b : ℕ) → Passes (f b) (g b)) → (bs : List ℕ)
    → Passes (flat_map f bs) (flat_map g bs)
Passes-flat_map f g h [] = Passes-nil
Passes-flat_map f g h (b ∷ bs) = Passes-append (f b) (g b) _ _ (h b) (Passes-flat_map f g h bs)

-- ---- one byte

stays : (o s : Bool) (x : ℕ) (r : List ℕ) (k : Mode → List Lexeme)
    → lex_byte in_string (cond o operator (cond s space other)) x r k ≡ k in_string
stays true s x r k = refl
stays false true x r k = refl
stays false false x r k = refl

inside : (x : ℕ) → x ≢ 34 → x ≢ 92 → (r : List ℕ) → lex in_string (x ∷ r) ≡ lex in_string r
unfolding lex
inside x q b r = rw (ne_eqb x 34 q, ne_eqb x 92 b) (stays (is_operator x) (is_space x) x r (λ m. lex m r))

pub Passes-byte : (x : ℕ) → 32 ≤ x → x ≢ 34 → x ≢ 92 → Passes (x ∷ []) (x ∷ [])
unfolding content
Passes-byte x l q b = record {
  read = λ r. rw (ne_eqb x 34 q, ne_eqb x 92 b, le-ltb x 32 l) refl;
  lexed = λ r. inside x q b r;
}

Passes-quote : Passes (codes "\\\"") (34 ∷ [])
unfolding content lex short_escape
Passes-quote = record { read = λ r. refl; lexed = λ r. refl }

Passes-backslash : Passes (codes "\\\\") (92 ∷ [])
unfolding content lex short_escape
Passes-backslash = record { read = λ r. refl; lexed = λ r. refl }

Passes-replaced : Passes (codes "\\ufffd") replacement_bytes
unfolding content lex code_unit encode_utf8
Passes-replaced = record { read = λ r. refl; lexed = λ r. refl }

-- ---- control characters

glyph_value : (d : ℕ) → d < 16 → digit_value (digit_glyph false d) ≡ d
glyph_value d h = grind arith

glyph_from : (d : ℕ) → d < 16 → 48 ≤ digit_glyph false d
glyph_from d h = grind arith

glyph_other : (d : ℕ) → d < 16 → digit_glyph false d ≢ 92
glyph_other d h e = grind arith

glyph_digit : (d : ℕ) → d < 16 → nat_lt (digit_value (digit_glyph false d)) 16 ≡ true
glyph_digit d h = rw (glyph_value d h) (lt-ltb d 16 h)

unit_of : (a b : ℕ) → a < 16 → b < 16 → code_unit 48 48 (digit_glyph false a) (digit_glyph false b) ≡ Some (a * 16 + b)
unfolding code_unit
unit_of a b h k =
    let e : 0 + a * 16 + b ≡ a * 16 + b = omega arith in
    rw (glyph_digit a h, glyph_digit b k, glyph_value a h, glyph_value b k) (ap Some e)

parts : (x : ℕ) → x / 16 * 16 + x % 16 ≡ x
parts x = omega arith

high_glyph : (x : ℕ) → x < 32 → x / 16 < 16
high_glyph x h = omega arith

low_glyph : (x : ℕ) → x % 16 < 16
low_glyph x = omega arith

escaped : (x : ℕ) → x < 32 → (r : List ℕ)
    → content after_u (48 ∷ 48 ∷ digit_glyph false (x / 16) ∷ digit_glyph false (x % 16) ∷ r)
    ≡ prepend (x ∷ []) (content plain r)
unfolding content
escaped x h r =
    rw (unit_of (x / 16) (x % 16) (high_glyph x h) (low_glyph x), parts x)
    (rw (lt-leb 0xd800 x (omega arith), lt-leb 0xdc00 x (omega arith)) (rw (encode_ascii x (omega arith)) refl))

control : (x : ℕ) → x < 32 → Passes (codes "\\u00" ++ hex_byte false x) (x ∷ [])
unfolding content lex
control x h = record {
  read = λ r. escaped x h r;
  lexed = λ r.
      let high = digit_glyph false (x / 16) in
      let low = digit_glyph false (x % 16) in
      let from_high = glyph_from (x / 16) (high_glyph x h) in
      let from_low = glyph_from (x % 16) (low_glyph x) in
      inside high (λ e. omega (arith, from_high)) (glyph_other (x / 16) (high_glyph x h)) (low ∷ r)
      ∙ inside low (λ e. omega (arith, from_low)) (glyph_other (x % 16) (low_glyph x)) r;
}

-- ---- a text that may hold any byte

-- how a byte is read
abbrev pub byte_shown : (utf8 : Bool) → ℕ → List ℕ
byte_shown utf8 b = cond (nat_lt 127 b && not utf8) replacement_bytes (b ∷ [])

above : (t : Bool) (b : ℕ) → 32 ≤ b → b ≢ 34 → b ≢ 92
    → Passes (cond t (codes "\\ufffd") (b ∷ [])) (cond t replacement_bytes (b ∷ []))
above true b l q s = Passes-replaced
above false b l q s = Passes-byte b l q s

pub Passes-json_byte : (utf8 : Bool) (b : ℕ) → Passes (json_byte utf8 b) (byte_shown utf8 b)
Passes-json_byte utf8 b = go (cases_eq b 34) (cases_eq b 92) (cases_lt b 32)
  where
    go : (b ≡ 34) ⊎ (b ≢ 34) → (b ≡ 92) ⊎ (b ≢ 92) → (b < 32) ⊎ (32 ≤ b)
        → Passes (json_byte utf8 b) (byte_shown utf8 b)
    go (inl e) s c = subst (λ x. Passes (json_byte utf8 x) (byte_shown utf8 x)) (sym e) Passes-quote
    go (inr q) (inl e) c = subst (λ x. Passes (json_byte utf8 x) (byte_shown utf8 x)) (sym e) Passes-backslash
    go (inr q) (inr s) (inl c) =
        rw (ne_eqb b 34 q, ne_eqb b 92 s, lt-ltb b 32 c, le-ltb 127 b (omega arith)) (control b c)
    go (inr q) (inr s) (inr l) =
        rw (ne_eqb b 34 q, ne_eqb b 92 s, le-ltb b 32 l) (above (nat_lt 127 b && not utf8) b l q s)

whole_bytes : (bs : List ℕ) → flat_map (byte_shown true) bs ≡ bs
whole_bytes [] = refl
whole_bytes (b ∷ bs) = rw (and_right (nat_lt 127 b) false refl) (ap (λ l. b ∷ l) (whole_bytes bs))

replaced_bytes : (bs : List ℕ) → flat_map (byte_shown false) bs ≡ flat_map replaced bs
replaced_bytes [] = refl
replaced_bytes (b ∷ bs) = ap₂ (λ (x y : List ℕ). x ++ y) (one (nat_lt 127 b)) (replaced_bytes bs)
  where
    one : (t : Bool) → cond (t && true) replacement_bytes (b ∷ []) ≡ cond t replacement_bytes (b ∷ [])
    one true = refl
    one false = refl

shown : (utf8 : Bool) (bs : List ℕ) → flat_map (byte_shown utf8) bs ≡ cond utf8 bs (flat_map replaced bs)
shown true bs = whole_bytes bs
shown false bs = replaced_bytes bs

-- ---- between quotation marks

pub lex-quoted : (piece bytes r : List ℕ) → Passes piece bytes
    → lex between (quoted piece ++ r) ≡ token (tokens_of.string bytes) ∷ lex between r
unfolding lex content
lex-quoted piece bytes r h =
    let e = append_assoc piece (34 ∷ []) r in
    ap (λ l. lex between (34 ∷ l)) e
    ∙ ap₂ (λ o ls. token (string_token o) ∷ ls) (h.read (34 ∷ r) ∙ ap Some (append-nil bytes)) (h.lexed (34 ∷ r))

pub lex-json_text : (bytes r : List ℕ)
    → lex between (json_text bytes ++ r) ≡ token (tokens_of.string (text_shown bytes)) ∷ lex between r
unfolding json_text
lex-json_text bytes r =
    let utf8 = is_utf8 bytes in
    lex-quoted _ _ r (Passes-flat_map (json_byte utf8) (byte_shown utf8) (Passes-json_byte utf8) bytes)
    ∙ ap (λ s. token (tokens_of.string s) ∷ lex between r) (shown utf8 bytes)

-- ---- texts without escapes

pub Passes-plain : (text : List ℕ) → ArePlain text → Passes text text
unfolding ArePlain
Passes-plain [] h = Passes-nil
Passes-plain (b ∷ bs) h = Passes-append (b ∷ []) (b ∷ []) bs bs (Passes-byte b h.0.0 h.0.2 h.0.3) (Passes-plain bs h.1)

pub ArePlain-nil : ArePlain []
unfolding ArePlain
ArePlain-nil = tt

pub ArePlain-cons : (b : ℕ) (bs : List ℕ) → IsPlainByte b → ArePlain bs → ArePlain (b ∷ bs)
unfolding ArePlain
ArePlain-cons b bs h k = (h, k)

pub ArePlain-append : (a b : List ℕ) → ArePlain a → ArePlain b → ArePlain (a ++ b)
unfolding ArePlain
ArePlain-append [] b h k = k
ArePlain-append (x ∷ a) b h k = (h.0, ArePlain-append a b h.1 k)

pub ArePlain-flat_map : (f : ℕ → List ℕ) (P : ℕ → Type 0) → ((b : ℕ) → P b → ArePlain (f b)) → (bs : List ℕ)
    → Each P bs → ArePlain (flat_map f bs)
ArePlain-flat_map f P h [] k = ArePlain-nil
ArePlain-flat_map f P h (b ∷ bs) k = ArePlain-append (f b) _ (h b k.0) (ArePlain-flat_map f P h bs k.1)
