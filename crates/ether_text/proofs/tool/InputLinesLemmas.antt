-- The input lines of bytes, a line at a time.
use Rattle.std.proofs.Common.{◌≡◌, ℕ, ◌+◌, ◌-◌, ◌<◌, ◌≤◌, List, [], ◌∷◌, ◌++◌, length, take, drop, slice_index_or, Bool, ◌==◌, false, true, refl, sym, ap, subst, ◌∙◌, append_assoc, arith}
use Rattle.std.specs.List.{slice_split, list_any}
use Rattle.std.specs.Str.Lines.{lines, lines_of_parts, strip_carriage_return}
use Rattle.std.proofs.lemmas.List.Splits.{slice_split_at, slice_split_none, length-slice_split}
use Rattle.std.proofs.lemmas.Bool.{eqb-true}
use Rattle.std.proofs.lemmas.List.Elements.{All-append, All-nil}
use Rattle.std.proofs.lemmas.List.Folds.{list_any_at}
use Rattle.std.proofs.lemmas.List.{take-append-drop, take_all, length-take-le, length-drop}
use Rattle.std.proofs.Math.Seq.{take-append_seam, take-append-add}
use Rattle.ether_text.specs.Tool.Run.{HasNoLineFeed}
use Rattle.ether_text.specs.Tool.LineLoop.{SplitsAtLineFeed}

parts_cons : (x : List ℕ) (parts : List (List ℕ)) → 0 < length parts
    → lines_of_parts (x ∷ parts) ≡ strip_carriage_return x ∷ lines_of_parts parts
parts_cons x [] some = absurd (omega arith)
parts_cons x (y ∷ more) some = refl

-- a line that an LF ends, and the lines after it
pub lines-line : (line rest : List ℕ) → HasNoLineFeed line
    → lines (line ++ 10 ∷ rest) ≡ strip_carriage_return line ∷ lines rest
lines-line line rest none =
    let some = length-slice_split (λ b. b == 10) rest in
    ap lines_of_parts (slice_split_at (λ b. b == 10) line 10 rest none refl)
    ∙ parts_cons line (slice_split (λ b. b == 10) rest) (omega arith)

-- a last line that no LF ends
pub lines-last : (line : List ℕ) → HasNoLineFeed line → (length line == 0) ≡ false → lines line ≡ line ∷ []
lines-last line none some = ap lines_of_parts (slice_split_none (λ b. b == 10) line none) ∙ one_part line some
  where
    one_part : (line : List ℕ) → (length line == 0) ≡ false → lines_of_parts (line ∷ []) ≡ line ∷ []
    one_part line some = rw some

-- a line of no byte
pub no_byte : (line : List ℕ) → (length line == 0) ≡ true → line ≡ []
no_byte [] none = refl
no_byte (x ∷ xs) none = let z : length (x ∷ xs) ≡ 0 = eqb-true (length (x ∷ xs)) 0 none in absurd (omega arith)

-- no byte, no line
pub lines-nothing : (line : List ℕ) → (length line == 0) ≡ true → lines line ≡ []
lines-nothing line none = ap lines (no_byte line none)

pub HasNoLineFeed-nil : HasNoLineFeed []
HasNoLineFeed-nil = All-nil (λ (byte : ℕ). (byte == 10) ≡ false)

pub HasNoLineFeed-append : (xs ys : List ℕ) → HasNoLineFeed xs → HasNoLineFeed ys → HasNoLineFeed (xs ++ ys)
HasNoLineFeed-append xs ys left right = All-append (λ (byte : ℕ). (byte == 10) ≡ false) xs ys left right

-- ---- blocks that are skipped

not_true : (b : Bool) → (b ≡ true → ⊥) → b ≡ false
not_true true h = absurd (h refl)
not_true false h = refl

none_is_found : (xs : List ℕ) → list_any (λ (byte : ℕ). byte == 10) xs ≡ false → HasNoLineFeed xs
none_is_found xs none k d lt =
    not_true (slice_index_or xs k d == 10)
    (λ is. let found : true ≡ false =
    sym (list_any_at (λ (byte : ℕ). byte == 10) xs k d lt is) ∙ none in absurd (cc))

take_further : (xs : List ℕ) (i n : ℕ) → i ≤ length xs → take (i + n) xs ≡ take i xs ++ take n (drop i xs)
take_further xs i n within =
    ap (λ (k : ℕ). take (k + n) xs) (sym (length-take-le i xs within))
    ∙ ap (take (length (take i xs) + n)) (sym (take-append-drop i xs)) ∙ take-append-add (take i xs) (drop i xs) n

-- one block more without an LF
pub block_skipped : (xs : List ℕ) (i n : ℕ) → i ≤ length xs → HasNoLineFeed (take i xs)
    → list_any (λ (byte : ℕ). byte == 10) (take n (drop i xs)) ≡ false → HasNoLineFeed (take (i + n) xs)
block_skipped xs i n within none found =
    subst HasNoLineFeed (sym (take_further xs i n within))
    (HasNoLineFeed-append (take i xs) (take n (drop i xs)) none (none_is_found (take n (drop i xs)) found))

all_the_rest : (xs : List ℕ) (i : ℕ) → take (length xs - i) (drop i xs) ≡ drop i xs
all_the_rest xs i = take_all (length xs - i) (drop i xs) (let n = length-drop i xs in omega (arith, n))

-- the first LF after the blocks is the first of all
pub SplitsAtLineFeed-skipped : (xs : List ℕ) (i : ℕ) (piece after : List ℕ) → i ≤ length xs → HasNoLineFeed (take i xs)
    → SplitsAtLineFeed (take (length xs - i) (drop i xs)) piece after
    → SplitsAtLineFeed xs (take (i + length piece) xs) after
SplitsAtLineFeed-skipped xs i piece after within none splits =
    let parts : drop i xs ≡ piece ++ 10 ∷ after = sym (all_the_rest xs i) ∙ splits.parts in
    let rest : take (length piece) (drop i xs) ≡ piece =
    ap (take (length piece)) parts ∙ take-append_seam piece (10 ∷ after) in
    let front : take (i + length piece) xs ≡ take i xs ++ piece =
    take_further xs i (length piece) within ∙ ap (λ (l : List ℕ). take i xs ++ l) rest in
    subst (λ (l : List ℕ). SplitsAtLineFeed xs l after) (sym front) (record {
      in_line = HasNoLineFeed-append (take i xs) piece none splits.in_line;
      parts =
          sym (take-append-drop i xs) ∙ ap (λ (l : List ℕ). take i xs ++ l) parts
          ∙ sym (append_assoc (take i xs) piece (10 ∷ after));
    })

-- no LF in the blocks and none after them
pub HasNoLineFeed-skipped : (xs : List ℕ) (i : ℕ) → HasNoLineFeed (take i xs)
    → HasNoLineFeed (take (length xs - i) (drop i xs)) → HasNoLineFeed xs
HasNoLineFeed-skipped xs i none rest =
    subst HasNoLineFeed (ap (λ (l : List ℕ). take i xs ++ l) (all_the_rest xs i) ∙ take-append-drop i xs)
    (HasNoLineFeed-append (take i xs) (take (length xs - i) (drop i xs)) none rest)
