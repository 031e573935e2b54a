-- A line is UTF-8 without control characters.
use Rattle.std.proofs.Common.{◌≡◌, ◌≢◌, ℕ, suc, ◌/◌, ◌%◌, ◌<◌, ◌≤◌, ◌⊎◌, inl, inr, Bool, true, false, cond, ◌&&◌, not, nat_lt, nat_le, List, [], ◌∷◌, ◌++◌, codes, length, get_or, IsUtf8, All, refl, sym, ap₂, subst, arith, append-nil}
use Rattle.std.proofs.lemmas.Bool.{cases_eq, cases_lt, ne_eqb, lt-ltb, le-ltb, ltb-true, ltb-false, leb-true, true≢false, and_parts, and_right}
use Rattle.std.proofs.lemmas.List.Concat.{flat_map-append}
use Rattle.std.proofs.lemmas.List.Elements.{All-append, All-cons}
use Rattle.std.proofs.lemmas.Str.{IsUtf8-append, IsUtf8-nil, IsUtf8-encode, IsUtf8-from_is_utf8, encode_ascii, inside_one}
use lib.Utf8.{scalar, scalars, encode, encodes, low_scalar}
use Rattle.std.specs.Fmt.{digit_glyph}
use Rattle.std.specs.List.{flat_map}
use Rattle.std.specs.Str.{is_utf8}
use Rattle.ether_base.specs.Texts.NumberText.{hex_byte}
use Rattle.ether_format.specs.Spelling.{json_byte, json_text, quoted}
use Rattle.ether_make.proofs.JsonFits.{ArePlain}

-- no control character
abbrev pub AreShown : List ℕ → Type 0
AreShown text = All (λ b. 32 ≤ b) text

pub record IsPrinted (text : List ℕ) : Type 0 where
  pub utf8 : IsUtf8 text
  pub shown : AreShown text

pub IsPrinted-nil : IsPrinted []
IsPrinted-nil = record { utf8 = IsUtf8-nil; shown = λ k d h. absurd (omega arith) }

pub IsPrinted-append : (a b : List ℕ) → IsPrinted a → IsPrinted b → IsPrinted (a ++ b)
IsPrinted-append a b h k = record {
  utf8 = IsUtf8-append a b h.utf8 k.utf8;
  shown = All-append (λ x. 32 ≤ x) a b h.shown k.shown;
}

-- a character of ASCII, and more
ascii_then : (x : ℕ) (xs : List ℕ) → 32 ≤ x → x < 128 → IsPrinted xs → IsPrinted (x ∷ xs)
ascii_then x xs from small p = record {
  utf8 = IsUtf8-append (x ∷ []) xs
      (subst IsUtf8 (encode_ascii x small) (IsUtf8-encode x (low_scalar x (omega arith)))) p.utf8;
  shown = All-cons (λ y. 32 ≤ y) x xs from p.shown;
}

pub IsPrinted-plain : (text : List ℕ) → ArePlain text → IsPrinted text
unfolding ArePlain
IsPrinted-plain [] h = IsPrinted-nil
IsPrinted-plain (b ∷ bs) h = ascii_then b bs h.0.0 (omega (arith, h.0.1)) (IsPrinted-plain bs h.1)

abbrev are_ascii : List ℕ → Bool
are_ascii [] = true
are_ascii (x ∷ xs) = nat_le 32 x && (nat_lt x 128 && are_ascii xs)

-- a constant text
pub IsPrinted-ascii : (xs : List ℕ) → are_ascii xs ≡ true → IsPrinted xs
IsPrinted-ascii [] e = IsPrinted-nil
IsPrinted-ascii (x ∷ xs) e =
    let p = and_parts (nat_le 32 x) (nat_lt x 128 && are_ascii xs) e in
    let q = and_parts (nat_lt x 128) (are_ascii xs) p.1 in
    ascii_then x xs (leb-true 32 x p.0) (ltb-true x 128 q.0) (IsPrinted-ascii xs q.1)

pub IsPrinted-quoted : (text : List ℕ) → IsPrinted text → IsPrinted (quoted text)
IsPrinted-quoted text u =
    ascii_then 34 _ (omega arith) (omega arith) (IsPrinted-append text (34 ∷ []) u (IsPrinted-ascii (34 ∷ []) refl))

-- ---- a text that may hold any byte

glyph_range : (d : ℕ) → d < 16 → (32 ≤ digit_glyph false d) × (digit_glyph false d < 128)
glyph_range d h = (grind arith, grind arith)

escape_printed : (b : ℕ) → b < 32 → IsPrinted (codes "\\u00" ++ hex_byte false b)
escape_printed b h =
    let high = glyph_range (b / 16) (omega arith) in
    let low = glyph_range (b % 16) (omega arith) in
    IsPrinted-append (codes "\\u00") (hex_byte false b) (IsPrinted-ascii (codes "\\u00") refl)
    (ascii_then _ _ high.0 high.1 (ascii_then _ _ low.0 low.1 IsPrinted-nil))

module _ (P : List ℕ → Type 0) (constant : (xs : List ℕ) → are_ascii xs ≡ true → P xs)
    (escape : (b : ℕ) → b < 32 → P (codes "\\u00" ++ hex_byte false b)) (utf8 : Bool) (b : ℕ) where
  above : (t : Bool) → t ≡ (nat_lt 127 b && not utf8) → (t ≡ false → P (b ∷ []))
      → P (cond t (codes "\\ufffd") (b ∷ []))
  above true e h = constant (codes "\\ufffd") refl
  above false e h = h refl

  -- what holds of escapes, and of a byte that means itself
  by_byte : (32 ≤ b → (nat_lt 127 b && not utf8) ≡ false → P (b ∷ [])) → P (json_byte utf8 b)
  by_byte h = go (cases_eq b 34) (cases_eq b 92) (cases_lt b 32)
    where
      go : (b ≡ 34) ⊎ (b ≢ 34) → (b ≡ 92) ⊎ (b ≢ 92) → (b < 32) ⊎ (32 ≤ b) → P (json_byte utf8 b)
      go (inl e) s c = rw e (constant (codes "\\\"") refl)
      go (inr q) (inl e) c = rw e (constant (codes "\\\\") refl)
      go (inr q) (inr s) (inl c) = rw (ne_eqb b 34 q, ne_eqb b 92 s, lt-ltb b 32 c) (escape b c)
      go (inr q) (inr s) (inr l) = rw (ne_eqb b 34 q, ne_eqb b 92 s, le-ltb b 32 l) (above _ refl (h l))

byte_shown : (utf8 : Bool) (b : ℕ) → AreShown (json_byte utf8 b)
byte_shown utf8 b =
    by_byte AreShown (λ xs e. (IsPrinted-ascii xs e).shown) (λ c h. (escape_printed c h).shown) utf8 b
    (λ from e. All-cons (λ y. 32 ≤ y) b [] from IsPrinted-nil.shown)

text_shown : (utf8 : Bool) (bs : List ℕ) → AreShown (flat_map (json_byte utf8) bs)
text_shown utf8 [] = IsPrinted-nil.shown
text_shown utf8 (b ∷ bs) = All-append (λ y. 32 ≤ y) (json_byte utf8 b) _ (byte_shown utf8 b) (text_shown utf8 bs)

-- of a byte that is ASCII, or that is replaced
byte_utf8 : (utf8 : Bool) (b : ℕ) → ((nat_lt 127 b && not utf8) ≡ false → b < 128) → IsUtf8 (json_byte utf8 b)
byte_utf8 utf8 b h =
    by_byte IsUtf8 (λ xs e. (IsPrinted-ascii xs e).utf8) (λ c k. (escape_printed c k).utf8) utf8 b
    (λ from e. (ascii_then b [] from (h e) IsPrinted-nil).utf8)

-- text that is not UTF-8 has no byte above 127 left
replaced_utf8 : (bs : List ℕ) → IsUtf8 (flat_map (json_byte false) bs)
replaced_utf8 [] = IsUtf8-nil
replaced_utf8 (b ∷ bs) =
    IsUtf8-append (json_byte false b) _ (byte_utf8 false b (λ e. small (nat_lt 127 b) refl e)) (replaced_utf8 bs)
  where
    small : (t : Bool) → t ≡ nat_lt 127 b → (t && true) ≡ false → b < 128
    small true e f = absurd (true≢false f)
    small false e f = omega (arith, ltb-false 127 b (sym e))

high_byte : (b : ℕ) → 128 ≤ b → json_byte true b ≡ b ∷ []
high_byte b h =
    rw (ne_eqb b 34 (λ e. omega arith), ne_eqb b 92 (λ e. omega arith), le-ltb b 32 (omega arith))
    (rw (and_right (nat_lt 127 b) false refl) refl)

high_bytes : (bs : List ℕ) → ((k : ℕ) → k < length bs → 128 ≤ get_or bs k 0) → flat_map (json_byte true) bs ≡ bs
high_bytes [] h = refl
high_bytes (b ∷ bs) h =
    ap₂ (λ (x y : List ℕ). x ++ y) (high_byte b (h 0 (omega arith)))
    (high_bytes bs (λ k below. h (suc k) (omega arith)))

one_char : (c : ℕ) → scalar c ≡ true → IsUtf8 (flat_map (json_byte true) (encode c))
one_char c ok = elim (cases_lt c 128) [
  | inl small ↦ rw (encode_ascii c small, append-nil) (byte_utf8 true c (λ e. small))
  | inr big ↦
      let high : (k : ℕ) → k < length (encode c) → 128 ≤ get_or (encode c) k 0 =
      λ k below. elim (cases_lt (get_or (encode c) k 0) 128) [
        | inl low ↦ absurd (omega (arith, inside_one c [] (encode c) k (sym (append-nil _)) below low))
        | inr h ↦ h
      ] in
      subst IsUtf8 (sym (high_bytes (encode c) high)) (IsUtf8-encode c ok)
]

all_chars : (cs : List ℕ) → scalars cs ≡ true → IsUtf8 (flat_map (json_byte true) (encodes cs))
all_chars [] e = IsUtf8-nil
all_chars (c ∷ cs) e =
    let p = and_parts (scalar c) (scalars cs) e in
    subst IsUtf8 (sym (flat_map-append (json_byte true) (encode c) (encodes cs)))
    (IsUtf8-append _ _ (one_char c p.0) (all_chars cs p.1))

text_utf8 : (t : Bool) (bs : List ℕ) → t ≡ is_utf8 bs → IsUtf8 (flat_map (json_byte t) bs)
text_utf8 true bs e =
    let u : IsUtf8 bs = IsUtf8-from_is_utf8 bs (sym e) in
    subst (λ xs. IsUtf8 (flat_map (json_byte true) xs)) u.1.1 (all_chars u.0 u.1.0)
text_utf8 false bs e = replaced_utf8 bs

pub IsPrinted-json_text : (bs : List ℕ) → IsPrinted (json_text bs)
unfolding json_text
IsPrinted-json_text bs =
    IsPrinted-quoted _ (record { utf8 = text_utf8 (is_utf8 bs) bs refl; shown = text_shown (is_utf8 bs) bs })
