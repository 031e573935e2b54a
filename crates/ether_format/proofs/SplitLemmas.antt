-- A text is split in one way.
use Rattle.std.proofs.Common.{◌≡◌, ℕ, ◌+◌, List, [], ◌∷◌, ◌++◌, length, drop, true, false, sym, ap, ◌∙◌, arith, append_assoc, length-append}
use Rattle.std.specs.Prelude.{◌==◌}
use Rattle.std.specs.List.{All, slice_split}
use Rattle.std.proofs.lemmas.List.{drop_at}
use Rattle.std.proofs.lemmas.List.Splits.{slice_split_at, slice_split_none, length-slice_split}
use Rattle.ether_format.specs.Splits.{SplitsAt}

abbrev first_of : List (List ℕ) → List ℕ
first_of [] = []
first_of (x ∷ xs) = x

module _ (byte : ℕ) (same_byte : (byte == byte) ≡ true) where
  pub parts_are : (text before after : List ℕ) → SplitsAt byte text before after
      → slice_split (λ b. b == byte) text ≡ before ∷ slice_split (λ b. b == byte) after
  parts_are text before after is =
      ap (slice_split (λ b. b == byte)) is.parts
      ∙ slice_split_at (λ b. b == byte) before byte after is.none_before same_byte

  after_is : (text before after : List ℕ) → SplitsAt byte text before after → drop (length before + 1) text ≡ after
  after_is text before after is =
      let front : before ++ byte ∷ after ≡ (before ++ byte ∷ []) ++ after =
      sym (append_assoc before (byte ∷ []) after) in
      let len : length (before ++ byte ∷ []) ≡ length before + 1 = length-append before (byte ∷ []) in
      ap (drop (length before + 1)) (is.parts ∙ front) ∙ drop_at (before ++ byte ∷ []) after (length before + 1) len

  pub one_split : (text a b c d : List ℕ) → SplitsAt byte text a b → SplitsAt byte text c d → (a ≡ c) × (b ≡ d)
  one_split text a b c d s t =
      let same : a ≡ c = ap first_of (sym (parts_are text a b s) ∙ parts_are text c d t) in
      (same, sym (after_is text a b s) ∙ ap (λ (l : List ℕ). drop (length l + 1) text) same ∙ after_is text c d t)

  pub no_split : (text before after : List ℕ) → All (λ b. (b == byte) ≡ false) text → SplitsAt byte text before after
      → ⊥
  no_split text before after none is =
      let one : before ∷ slice_split (λ b. b == byte) after ≡ text ∷ [] =
      sym (parts_are text before after is) ∙ slice_split_none (λ b. b == byte) text none in
      let len : length (before ∷ slice_split (λ b. b == byte) after) ≡ 1 = ap length one in
      let some = length-slice_split (λ b. b == byte) after in
      omega (arith, len, some)
