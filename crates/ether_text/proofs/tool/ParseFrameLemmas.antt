-- Lines that name a frame, and lines that name none.
use Rattle.std.proofs.Common.{◌≡◌, ℕ, zero, suc, ◌+◌, ◌*◌, ◌/◌, ◌%◌, ◌<◌, ◌≤◌, ◌⊎◌, inl, inr, false, List, [], ◌∷◌, ◌++◌, length, take, slice_index, Option, Some, None, is_some, true, Result, Ok, Err, refl, sym, ap, ◌∙◌, subst, arith}
use Rattle.std.specs.Prelude.{MatchResult, IsNone, IfNone, ◌↔◌}
use Rattle.std.proofs.lemmas.Option.{same_Some}
use Rattle.std.specs.Result.{result_unwrap_or}
use Rattle.std.proofs.lemmas.List.{take-append-le, take_all}
use Rattle.std.proofs.lemmas.Bool.{cases_eq, cases_lt}
use Rattle.hex.specs.Hex.{hex_digit_value, decode_pairs, decode_sized, pair_value, value_at, digit_or_error, ◌>>=◌}
use Rattle.hex.specs.declared.error.FromHexError.{FromHexError}
use Rattle.hex.proofs.HexLemmas.{decode_pairs-err, decode_sized-ok}
use Rattle.hex.proofs.Pairs.{decode_sized-pairs}
use Rattle.ether_text.specs.Tool.Frame.{max_line_digits, NameByte, IsFrame, IsBadLine, too_long, odd, no_digit}

-- what a digit that read is worth
digit_value : (o : Option ℕ) (c i v : ℕ) → digit_or_error c i o ≡ Ok v → o ≡ Some v
digit_value (Some w) c i v h = ap Some (ap (λ (r : Result ℕ FromHexError). result_unwrap_or r 0) h)
digit_value None c i v h = absurd (cc)

-- what an `Ok` after `>>=` shows
bind_ok : {A B : Type 0} (r : Result A FromHexError) (f : A → Result B FromHexError) (y : B)
    → (r >>= f) ≡ Ok y → (x : A) × (r ≡ Ok x) × (f x ≡ Ok y)
bind_ok (Ok x) f y h = (x, refl, h)
bind_ok (Err e) f y h = absurd (cc)

-- two digits that read name their byte
pair_named : (a b i v : ℕ) → pair_value a b i ≡ Ok v → NameByte a b v
pair_named a b i v h =
    let first = bind_ok (value_at a i) _ v h in
    let second = bind_ok (value_at b (i + 1)) _ v first.2 in
    let sum : first.0 * 16 + second.0 ≡ v = ap (λ (r : Result ℕ FromHexError). result_unwrap_or r 0) second.2 in
    record {
      high = first.0;
      low = second.0;
      first_value = digit_value (hex_digit_value a) a i first.0 first.1;
      second_value = digit_value (hex_digit_value b) b (i + 1) second.0 second.1;
      whole = omega (arith, sum);
    }

-- the pairs of a line and the bytes that they name
pub record IsPairs (line frame : List ℕ) : Type 0 where
  pub pairs : length line ≡ 2 * length frame
  pub bytes : (i : ℕ) → i < length frame
      → NameByte (slice_index line (2 * i)) (slice_index line (2 * i + 1)) (slice_index frame i)

pairs_more : (a b v : ℕ) (line frame : List ℕ) → NameByte a b v → IsPairs line frame
    → IsPairs (a ∷ b ∷ line) (v ∷ frame)
pairs_more a b v line frame one more = record { pairs = let k = more.pairs in omega arith; bytes = each }
  where
    each : (i : ℕ) → i < length (v ∷ frame)
        → NameByte (slice_index (a ∷ b ∷ line) (2 * i)) (slice_index (a ∷ b ∷ line) (2 * i + 1))
        (slice_index (v ∷ frame) i)
    each zero h = one
    each (suc i) h =
        let first : 2 * suc i ≡ suc (suc (2 * i)) = omega arith in
        let second : suc (suc (2 * i)) + 1 ≡ suc (suc (2 * i + 1)) = omega arith in
        rw (first, second) (more.bytes i (omega arith))

-- what decodes is pairs
pub pairs_decoded : (i : ℕ) (line frame : List ℕ) → decode_pairs i line ≡ Ok frame → IsPairs line frame
unfolding decode_pairs
pairs_decoded i [] frame h =
    let e : [] ≡ frame = ap (λ (r : Result (List ℕ) FromHexError). result_unwrap_or r []) h in
    subst (λ (f : List ℕ). IsPairs [] f) e (record { pairs = refl; bytes = λ k lt. absurd (omega arith) })
pairs_decoded i (a ∷ []) frame h = absurd (cc)
pairs_decoded i (a ∷ b ∷ line) frame h =
    let one = bind_ok (pair_value a b i) _ frame h in
    let more = bind_ok (decode_pairs (i + 2) line) _ frame one.2 in
    let e : one.0 ∷ more.0 ≡ frame = ap (λ (r : Result (List ℕ) FromHexError). result_unwrap_or r []) more.2 in
    subst (λ (f : List ℕ). IsPairs (a ∷ b ∷ line) f) e
    (pairs_more a b one.0 line more.0 (pair_named a b i one.0 one.1) (pairs_decoded (i + 2) line more.0 more.1))

-- a line that decodes names the frame
frame_decoded : (line frame : List ℕ) (n : ℕ) → length line ≤ max_line_digits → n ≡ length line / 2
    → decode_sized line n ≡ Ok frame → IsFrame line frame
frame_decoded line frame n short half h =
    let twice = decode_sized-ok line n frame h in
    let pairs = pairs_decoded 0 line frame (sym (decode_sized-pairs line n (omega arith) (omega arith)) ∙ h) in
    record { short = short; pairs = pairs.pairs; bytes = pairs.bytes }

-- a character that is no digit has no value
digit_none : (o : Option ℕ) → is_some o ≡ false → o ≡ None
digit_none None h = refl
digit_none (Some v) h = absurd (cc)

-- a line that does not decode names no frame
bad_decoded : (line : List ℕ) (n : ℕ) (e : FromHexError) → n ≡ length line / 2 → decode_sized line n ≡ Err e
    → IsBadLine line
bad_decoded line n e half h =
    elim (cases_eq (length line % 2) 1) [
      | inl is_odd ↦ odd is_odd
      | inr other ↦
          let even : length line % 2 ≡ 0 = omega arith in
          let at = decode_pairs-err 0 line e even (sym (decode_sized-pairs line n even (omega arith)) ∙ h) in
          no_digit at.0 at.2 (digit_none (hex_digit_value (slice_index line at.0)) at.3)
    ]

none_is_some : (c v : ℕ) → hex_digit_value c ≡ None → hex_digit_value c ≡ Some v → ⊥
none_is_some c v none some = let no : None ≡ Some v = sym none ∙ some in cc

-- no line both names a frame and is bad
pub frame_or_bad : (line frame : List ℕ) → IsFrame line frame → IsBadLine line → ⊥
frame_or_bad line frame is (too_long h) = let k = is.short in omega arith
frame_or_bad line frame is (odd h) = let k = is.pairs in omega arith
frame_or_bad line frame is (no_digit i lt none) =
    let k = is.pairs in
    let byte = is.bytes (i / 2) (omega arith) in
    elim (cases_eq (i % 2) 0) [
      | inl even ↦
          let at : 2 * (i / 2) ≡ i = omega arith in
          none_is_some (slice_index line i) byte.high none
          (ap (λ (j : ℕ). hex_digit_value (slice_index line j)) (sym at) ∙ byte.first_value)
      | inr other ↦
          let at : 2 * (i / 2) + 1 ≡ i = omega arith in
          none_is_some (slice_index line i) byte.low none
          (ap (λ (j : ℕ). hex_digit_value (slice_index line j)) (sym at) ∙ byte.second_value)
    ]

-- each line names a frame or is bad
pub frame_decided : (line : List ℕ) → ((frame : List ℕ) × IsFrame line frame) ⊎ IsBadLine line
frame_decided line =
    elim (cases_lt max_line_digits (length line)) [
      | inl long ↦ inr (too_long long)
      | inr short ↦ decided (decode_sized line (length line / 2)) refl short
    ]
  where
    decided : (d : Result (List ℕ) FromHexError) → decode_sized line (length line / 2) ≡ d
        → length line ≤ max_line_digits → ((frame : List ℕ) × IsFrame line frame) ⊎ IsBadLine line
    decided (Ok frame) h short = inl (frame, frame_decoded line frame (length line / 2) short refl h)
    decided (Err e) h short = inr (bad_decoded line (length line / 2) e refl h)

decoded : (d : Result (List ℕ) FromHexError) (r : Result (Unit {0}) FromHexError) (new : List ℕ) (u : Unit {0})
    → r ≡ Ok u
    → MatchResult d (λ bytes. (r ≡ Ok tt) × (new ≡ bytes)) (λ e. r ≡ Err e) → d ≡ Ok new
decoded (Ok bytes) r new u is h = ap Ok (sym h.1)
decoded (Err e) r new u is h = absurd (cc)

refused : (d : Result (List ℕ) FromHexError) (r : Result (Unit {0}) FromHexError) (new : List ℕ) (f : FromHexError)
    → r ≡ Err f
    → MatchResult d (λ bytes. (r ≡ Ok tt) × (new ≡ bytes)) (λ e. r ≡ Err e) → (e : FromHexError) × (d ≡ Err e)
refused (Ok bytes) r new f is h = let no : r ≡ Ok tt = h.0 in absurd (cc)
refused (Err e) r new f is h = (e, refl)

-- a line that was decoded in place names the frame there
pub frame_in_place : (line new : List ℕ) (n : ℕ) (r : Result (Unit {0}) FromHexError) (u : Unit {0})
    → length line ≤ max_line_digits → n ≡ length line / 2 → r ≡ Ok u
    → MatchResult (decode_sized line n) (λ bytes. (r ≡ Ok tt) × (new ≡ bytes)) (λ e. r ≡ Err e) → IsFrame line new
frame_in_place line new n r u short half is h =
    frame_decoded line new n short half (decoded (decode_sized line n) r new u is h)

-- the frame is what was written at the front
pub frame_at_front : (line new rest : List ℕ) → IsFrame line new → IsFrame line (take (length line / 2) (new ++ rest))
frame_at_front line new rest is =
    let k = is.pairs in
    let all : take (length line / 2) (new ++ rest) ≡ new =
    take-append-le (length line / 2) new rest (omega arith) ∙ take_all (length line / 2) new (omega arith) in
    rw all is

-- a line that was refused is bad
pub bad_in_place : (line new : List ℕ) (n : ℕ) (r : Result (Unit {0}) FromHexError) (f : FromHexError)
    → n ≡ length line / 2 → r ≡ Err f
    → MatchResult (decode_sized line n) (λ bytes. (r ≡ Ok tt) × (new ≡ bytes)) (λ e. r ≡ Err e) → IsBadLine line
bad_in_place line new n r f half is h =
    let e = refused (decode_sized line n) r new f is h in bad_decoded line n e.0 half e.1

-- `None` says what it is the test of
pub none_is : (r : Option ℕ) (P : Type 0) → IsNone r ↔ P → IfNone r P
none_is None P h = h.0 refl
none_is (Some v) P h = tt

-- two digits name one byte
one_byte : (first second a b : ℕ) → NameByte first second a → NameByte first second b → a ≡ b
one_byte first second a b x y =
    let high : x.high ≡ y.high = same_Some x.high y.high (sym x.first_value ∙ y.first_value) in
    let low : x.low ≡ y.low = same_Some x.low y.low (sym x.second_value ∙ y.second_value) in
    let left = x.whole in
    let right = y.whole in
    omega arith

-- lists of one length with the same elements are one list
same_lists : (xs ys : List ℕ) → length xs ≡ length ys → ((i : ℕ) → i < length xs → slice_index xs i ≡ slice_index ys i)
    → xs ≡ ys
same_lists [] [] len same = refl
same_lists [] (y ∷ ys) len same = absurd (omega arith)
same_lists (x ∷ xs) [] len same = absurd (omega arith)
same_lists (x ∷ xs) (y ∷ ys) len same =
    let head : x ≡ y = same 0 (omega arith) in
    let tail = same_lists xs ys (omega arith) (λ i h. same (suc i) (omega arith)) in
    cc

-- a line names one frame
pub one_frame : (line frame other : List ℕ) → IsFrame line frame → IsFrame line other → frame ≡ other
one_frame line frame other x y =
    let left = x.pairs in
    let right = y.pairs in
    let len : length frame ≡ length other = omega arith in
    same_lists frame other len (λ i h. one_byte _ _ _ _ (x.bytes i h) (y.bytes i (omega arith)))

some_is : (o : Option ℕ) (v : ℕ) → o ≡ Some v → is_some o ≡ true
some_is o v h = rw h refl

-- each character of a line that names a frame is a digit
pub frame_of_digits : (line frame : List ℕ) → IsFrame line frame → (i : ℕ) → i < length line
    → is_some (hex_digit_value (slice_index line i)) ≡ true
frame_of_digits line frame is i lt =
    let k = is.pairs in
    let byte = is.bytes (i / 2) (omega arith) in
    elim (cases_eq (i % 2) 0) [
      | inl even ↦
          let at : i ≡ 2 * (i / 2) = omega arith in
          rw at (some_is _ byte.high byte.first_value)
      | inr other ↦
          let at : i ≡ 2 * (i / 2) + 1 = omega arith in
          rw at (some_is _ byte.low byte.second_value)
    ]

-- a line with a character that is no digit is bad
pub bad_of_digits : (line : List ℕ)
    → (((i : ℕ) → i < length line → is_some (hex_digit_value (slice_index line i)) ≡ true) → ⊥) → IsBadLine line
bad_of_digits line other =
    elim (frame_decided line) [
      | inl named ↦ absurd (other (frame_of_digits line named.0 named.1))
      | inr bad ↦ bad
    ]
