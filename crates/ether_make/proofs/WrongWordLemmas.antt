-- The name of a long option, with `=` after it or not.
use Rattle.std.proofs.Common.{◌≡◌, ◌<◌, ℕ, List, [], ◌∷◌, false, refl, sym, true, length, ap, ◌∙◌, arith}
use Rattle.std.specs.Prelude.{◌==◌}
use Rattle.std.specs.List.{All, slice_split}
use Rattle.std.proofs.lemmas.List.Splits.{slice_split_none, length-slice_split}
use Rattle.ether_format.specs.Splits.{SplitsAt}
use Rattle.ether_make.specs.WrongWords.{long_need, name_need, pieces_need}
use Rattle.ether_format.proofs.SplitLemmas.{parts_are}

after_name : (name : List ℕ) (pieces : List (List ℕ)) → 0 < length pieces
    → pieces_need (name ∷ pieces) ≡ name_need name false
after_name name [] some = absurd (omega arith)
after_name name (piece ∷ pieces) some = refl

pub need_with_value : (text name value : List ℕ) → SplitsAt 61 text name value → name_need name false ≡ long_need text
need_with_value text name value is =
    let some : 0 < length (slice_split (λ (b : ℕ). b == 61) value) =
    omega (arith, length-slice_split (λ (b : ℕ). b == 61) value) in
    sym (ap pieces_need (parts_are 61 refl text name value is)
    ∙ after_name name (slice_split (λ (b : ℕ). b == 61) value) some)

pub need_alone : (text : List ℕ) → All (λ b. (b == 61) ≡ false) text → name_need text true ≡ long_need text
need_alone text none = sym (ap pieces_need (slice_split_none (λ b. b == 61) text none))
