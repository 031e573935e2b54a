-- The words that name a mode, as references.
use Rattle.std.proofs.Common.{◌≡◌, ℕ, zero, suc, ◌+◌, ◌*◌, ◌<◌, ◌≤◌, List, [], ◌∷◌, length, map, slice_index, slice_index_or, Option, Some, None, Bor, codes, refl, sym, ap, subst, ◌∙◌, arith}
use Rattle.hex.specs.Hex.{hex_digit_value}
use Rattle.ether_text.specs.Tool.Frame.{IsFrame, IsBadLine, too_long, odd, no_digit}
use Rattle.ether_text.specs.Tool.Mode.{NamesNumber, NamesType, NamesMode, no_word, ether_type}
use Rattle.ether_text.specs.declared.tool.mode.Mode.{Mode}
use Rattle.ether_text.specs.declared.tool.mode.Mode.TheVariants.{Eth, EtherType}

-- ---- words

pub NamesMode-none : (words : List (Bor (List ℕ))) → length words < 1 → NamesMode (map (λ word. word.now) words) Eth
NamesMode-none [] few = no_word
NamesMode-none (word ∷ words) few = absurd (omega arith)

-- the only word of a list
pub only_word : (words : List (Bor (List ℕ))) (default : Bor (List ℕ)) (text : List ℕ) → 1 ≤ length words
    → length words < 2
    → (slice_index_or words 0 default).now ≡ text → map (λ word. word.now) words ≡ text ∷ []
only_word [] default text some few is = absurd (omega arith)
only_word (word ∷ []) default text some few is = ap (λ (t : List ℕ). t ∷ []) is
only_word (word ∷ next ∷ words) default text some few is = absurd (omega arith)

pub NamesMode-word : (words : List (Bor (List ℕ))) (default : Bor (List ℕ)) (text : List ℕ) (mode : Mode)
    → 1 ≤ length words → length words < 2
    → (slice_index_or words 0 default).now ≡ text → NamesMode (text ∷ []) mode
    → NamesMode (map (λ word. word.now) words) mode
NamesMode-word words default text mode some few is names =
    subst (λ (all : List (List ℕ)). NamesMode all mode) (sym (only_word words default text some few is)) names

pub NamesMode-type : (words : List (Bor (List ℕ))) (default other : Bor (List ℕ)) (n : ℕ) → 2 ≤ length words
    → length words < 3
    → (slice_index_or words 0 default).now ≡ codes "type" → NamesType (slice_index_or words 1 other).now n
    → NamesMode (map (λ word. word.now) words) (EtherType (record { 0 = n }))
NamesMode-type [] default other n some few is names = absurd (omega arith)
NamesMode-type (word ∷ []) default other n some few is names = absurd (omega arith)
NamesMode-type (word ∷ digits ∷ []) default other n some few is names =
    subst (λ (t : List ℕ). NamesMode (t ∷ digits.now ∷ []) (EtherType (record { 0 = n }))) (sym is)
    (ether_type digits.now n names)
NamesMode-type (word ∷ digits ∷ next ∷ words) default other n some few is names = absurd (omega arith)

-- ---- digits

-- four digits name the number of the two bytes that their pairs name
pub type_named : (digits bytes : List ℕ) (n : ℕ) → length digits ≡ 4 → IsFrame digits bytes
    → n ≡ slice_index bytes 0 * 256 + slice_index bytes 1 → NamesType digits n
type_named (a ∷ b ∷ c ∷ d ∷ []) (x ∷ y ∷ []) n four is e =
    let first = is.bytes 0 (omega arith) in
    let second = is.bytes 1 (omega arith) in
    let high = first.whole in
    let low = second.whole in
    let last = second.low * 1 + 0 in
    let third = second.high * 16 + last in
    let pair = first.low * 256 + third in
    let whole : n ≡ first.high * 4096 + pair = omega (arith, e, high, low) in
    record {
      four = refl;
      named = (
        first.high,
        pair,
        first.first_value,
        (
          first.low,
          third,
          first.second_value,
          (
            second.high,
            last,
            second.first_value,
            (second.low, 0, second.second_value, refl, refl),
            refl,
          ),
          refl,
        ),
        whole,
      );
    }
type_named digits bytes n four is e = let pairs = is.pairs in absurd (omega (arith, four, pairs))

-- each of the digits of a number has a value
each_digit : (digits : List ℕ) (n : ℕ) → NamesNumber digits n → (i : ℕ) → i < length digits
    → (v : ℕ) × (hex_digit_value (slice_index digits i) ≡ Some v)
each_digit [] n names i lt = absurd (omega arith)
each_digit (digit ∷ digits) n names zero lt = (names.0, names.2)
each_digit (digit ∷ digits) n names (suc i) lt = each_digit digits names.1 names.3 i (omega arith)

none_or_some : (o : Option ℕ) (v : ℕ) → o ≡ None → o ≡ Some v → ⊥
none_or_some o v none some = let no : None ≡ Some v = sym none ∙ some in cc

-- no number is named by what has another character
pub type_not_named : (word : List ℕ) → length word ≡ 4 → IsBadLine word → (n : ℕ) → NamesType word n → ⊥
type_not_named word four (too_long h) n names = omega arith
type_not_named word four (odd h) n names = omega arith
type_not_named word four (no_digit i lt none) n names =
    let some = each_digit word n names.named i lt in
    none_or_some (hex_digit_value (slice_index word i)) some.0 none some.1
