-- The words of a program's arguments, one after the other.
use Rattle.std.proofs.Common.{◌≡◌, List, [], ◌∷◌, length, map, Option, Some, None, false, refl, sym, ap, ◌∙◌, arith}
use Rattle.std.specs.Prelude.{String, string_bytes}
use Rattle.std.specs.Option.{is_some}
use Rattle.std.specs.Vec.Iter.{into_iter_items, into_iter_len, into_iter_steps}
use Rattle.std.specs.declared.vec.IntoIter.{IntoIter}
use Rattle.ether_text.specs.Arguments.{words_after}

none_left : {X Z : Type 0} (it : IntoIter X Z) → into_iter_len it ≡ 0 → into_iter_items it ≡ []
none_left it none = same_nil (into_iter_items it) (sym it.rest.ok.0 ∙ none)
  where
    same_nil : {X : Type 0} (l : List X) → length l ≡ 0 → l ≡ []
    same_nil [] is = refl
    same_nil (x ∷ l) is = absurd (omega (arith, is))

-- the words are those after the program's name
pub words_after-name : {A : Type 0} (args others : IntoIter (String A) A) (name : Option (String A))
    → into_iter_steps args name others
    → words_after (into_iter_items args) ≡ map string_bytes (into_iter_items others)
words_after-name args others None ended =
    ap words_after (none_left args ended.0) ∙ ap (map string_bytes) (sym (none_left others ended.1))
words_after-name args others (Some name) next = ap words_after next.0

-- no item is left
pub items_end : {X Z : Type 0} (it then : IntoIter X Z) (item : Option X) → into_iter_steps it item then
    → is_some item ≡ false → into_iter_items it ≡ []
items_end it then None ended none = none_left it ended.0
items_end it then (Some item) next none = absurd (cc)
