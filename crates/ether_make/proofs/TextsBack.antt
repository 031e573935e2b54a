-- The texts of addresses are read back.
use Rattle.std.proofs.Common.{◌≡◌, ℕ, ◌+◌, ◌-◌, ◌*◌, ◌/◌, ◌%◌, ◌<◌, ◌≤◌, inl, inr, nat_eq, true, false, List, [], ◌∷◌, ◌++◌, codes, decimal, Some, None, refl, ap, ◌∙◌, arith, append_assoc}
use Rattle.std.proofs.lemmas.Bool.{cases_lt, ne_eqb, lt-ltb, le-ltb, le-leb, lt-leb, or_right}
use Rattle.std.proofs.lemmas.Fmt.{decimal_by_steps}
use Rattle.std.specs.Fmt.{digit_glyph}
use Rattle.std.specs.List.{flat_map}
use Rattle.ether_base.specs.Bytes.{IsBytes}
use Rattle.ether_base.specs.Texts.NumberText.{hex_byte}
use Rattle.etherparse.proofs.Numbers.{IsBytes-tail}
use Rattle.ether_output.specs.HexText.{hex_text}
use Rattle.ether_format.specs.Spelling.{colon_text, dotted_text}
use Rattle.ether_make.specs.FieldBits.{has_dot}
use Rattle.ether_make.specs.Texts.{hex_digit, hex_pair, hex_bytes, and_more, pairs_after, colon_bytes, dotted_after, dotted_bytes}

-- ---- hexadecimal digits

digit_read : (d : ℕ) → d < 16 → hex_digit (digit_glyph false d) ≡ Some d
digit_read d h = elim (cases_lt d 10) [
  | inl low ↦
      let same : 48 + d - 48 ≡ d = omega arith in
      rw (lt-ltb d 10 low) (rw (le-leb 48 (48 + d) (omega arith), le-leb (48 + d) 57 (omega arith)) (ap Some same))
  | inr high ↦
      let same : 87 + d - 87 ≡ d = omega arith in
      rw (le-ltb d 10 high)
      (rw (
        le-leb 48 (87 + d) (omega arith),
        lt-leb (87 + d) 57 (omega arith),
        le-leb 97 (87 + d)
            (omega arith),
        le-leb (87 + d) 102 (omega arith),
      )
      (ap Some same))
]

pair_read : (b : ℕ) → b < 256 → hex_pair (digit_glyph false (b / 16)) (digit_glyph false (b % 16)) ≡ Some b
pair_read b h =
    let sum : 16 * (b / 16) + b % 16 ≡ b = omega arith in
    rw (digit_read (b / 16) (omega arith), digit_read (b % 16) (omega arith)) (ap Some sum)

pairs_read : (bs : List ℕ) → IsBytes bs → pairs_after (flat_map (λ c. codes ":" ++ hex_byte false c) bs) ≡ Some bs
pairs_read [] ok = refl
pairs_read (b ∷ bs) ok = rw (pair_read b (ok 0), pairs_read bs (IsBytes-tail b bs ok)) refl

pub colon_read : (bs : List ℕ) → IsBytes bs → colon_bytes (colon_text bs) ≡ Some bs
unfolding colon_text
colon_read [] ok = refl
colon_read (b ∷ bs) ok = rw (pair_read b (ok 0), pairs_read bs (IsBytes-tail b bs ok)) refl

hex_pairs : (bs : List ℕ) → IsBytes bs → hex_bytes (flat_map (hex_byte false) bs) ≡ Some bs
hex_pairs [] ok = refl
hex_pairs (b ∷ bs) ok = rw (pair_read b (ok 0), hex_pairs bs (IsBytes-tail b bs ok)) refl

pub hex_read : (bs : List ℕ) → IsBytes bs → hex_bytes (hex_text bs) ≡ Some bs
unfolding hex_text
hex_read bs ok = hex_pairs bs ok

glyph_no_dot : (d : ℕ) → d < 16 → nat_eq (digit_glyph false d) 46 ≡ false
glyph_no_dot d h = elim (cases_lt d 10) [
  | inl low ↦ rw (lt-ltb d 10 low) (ne_eqb (48 + d) 46 (λ e. omega arith))
  | inr high ↦ rw (le-ltb d 10 high) (ne_eqb (87 + d) 46 (λ e. omega arith))
]

byte_no_dot : (b : ℕ) → b < 256 → (r : List ℕ) → has_dot r ≡ false → has_dot (hex_byte false b ++ r) ≡ false
byte_no_dot b h r none = rw (glyph_no_dot (b / 16) (omega arith), glyph_no_dot (b % 16) (omega arith)) none

later_no_dot : (bs : List ℕ) → IsBytes bs → has_dot (flat_map (λ c. codes ":" ++ hex_byte false c) bs) ≡ false
later_no_dot [] ok = refl
later_no_dot (b ∷ bs) ok =
    byte_no_dot b (ok 0) (flat_map (λ c. codes ":" ++ hex_byte false c) bs) (later_no_dot bs (IsBytes-tail b bs ok))

pub colon_no_dot : (bs : List ℕ) → IsBytes bs → has_dot (colon_text bs) ≡ false
unfolding colon_text
colon_no_dot [] ok = refl
colon_no_dot (b ∷ bs) ok =
    byte_no_dot b (ok 0) (flat_map (λ c. codes ":" ++ hex_byte false c) bs) (later_no_dot bs (IsBytes-tail b bs ok))

-- ---- decimal digits

Reads : ℕ → List ℕ → Type 0
Reads n ds = n < 256 → (r : List ℕ) → dotted_after None (ds ++ r) ≡ dotted_after (Some n) r

first_reads : (n : ℕ) → n < 10 → Reads n ((48 + n) ∷ [])
unfolding Reads
first_reads n h = λ small r.
    let same : 48 + n - 48 ≡ n = omega arith in
    rw (ne_eqb (48 + n) 46 (λ e. omega arith), le-leb 48 (48 + n) (omega arith), le-leb (48 + n) 57 (omega arith))
    (ap (λ m. dotted_after (Some m) r) same)

more_reads : (n : ℕ) (ds : List ℕ) → 10 ≤ n → Reads (n / 10) ds → Reads n (ds ++ (48 + n % 10) ∷ [])
unfolding Reads
more_reads n ds big h = λ small r.
    let c = 48 + n % 10 in
    let sum : 10 * (n / 10) + (c - 48) ≡ n = omega arith in
    let fits : 10 * (n / 10) + (c - 48) < 256 = omega arith in
    ap (dotted_after None) (append_assoc ds (c ∷ []) r) ∙ h (omega arith) (c ∷ r)
    ∙ rw (
      ne_eqb c 46 (λ e. omega arith),
      le-leb 48 c (omega arith),
      le-leb c 57 (omega arith),
      lt-ltb 0 (n / 10)
          (omega arith),
      lt-ltb _ 256 fits,
    )
    (ap (λ m. dotted_after (Some m) r) sum)

decimal_reads : (b : ℕ) → b < 256 → (r : List ℕ) → dotted_after None (decimal b ++ r) ≡ dotted_after (Some b) r
unfolding Reads
decimal_reads b h r = decimal_by_steps Reads first_reads more_reads b (omega arith) h r

later_dotted : (b : ℕ) (bs : List ℕ) → IsBytes bs
    → dotted_after (Some b) (flat_map (λ c. codes "." ++ decimal c) bs) ≡ Some (b ∷ bs)
later_dotted b [] ok = refl
later_dotted b (c ∷ bs) ok =
    ap (and_more (Some b)) (decimal_reads c (ok 0) _ ∙ later_dotted c bs (IsBytes-tail c bs ok))

pub dotted_read : (b : ℕ) (bs : List ℕ) → IsBytes (b ∷ bs) → dotted_bytes (dotted_text (b ∷ bs)) ≡ Some (b ∷ bs)
unfolding dotted_text
dotted_read b bs ok = decimal_reads b (ok 0) _ ∙ later_dotted b bs (IsBytes-tail b bs ok)

dot_later : (a r : List ℕ) → has_dot r ≡ true → has_dot (a ++ r) ≡ true
dot_later [] r h = h
dot_later (x ∷ a) r h = rw (dot_later a r h) (or_right (nat_eq x 46) true refl)

pub dotted_has_dot : (a b : ℕ) (bs : List ℕ) → has_dot (dotted_text (a ∷ b ∷ bs)) ≡ true
unfolding dotted_text
dotted_has_dot a b bs = dot_later (decimal a) _ refl
