-- The words of a text, and where each of them begins.
use Rattle.std.specs.Prelude.{◌≡◌, ℕ, ◌+◌, ◌<◌, ◌≤◌, List, [], ◌∷◌, length, drop, slice_range, Bool, true, false, nat_eq, codes, if◌then◌else◌}
use Rattle.std.specs.List.{list_any}
use Rattle.ether_filter.specs.declared.text_words.Word.{Word as Span}
use Rattle.ether_filter.specs.declared.text_words.Class.{Class}
use Rattle.ether_filter.specs.declared.text_words.Class.TheVariants.{Blank, Sign, Negation, Order, Equals, Connective, Letter}

-- space, tab, line feed and carriage return are blank
abbrev pub class_of : ℕ → Class
class_of c =
    if list_any (nat_eq c) (32 ∷ 9 ∷ 10 ∷ 13 ∷ []) then Blank
    else (if list_any (nat_eq c) (codes "(){},") then Sign
    else (if list_any (nat_eq c) (codes "!") then Negation
    else (if list_any (nat_eq c) (codes "<>") then Order
    else (if list_any (nat_eq c) (codes "=") then Equals
    else (if list_any (nat_eq c) (codes "&|") then Connective else Letter)))))

abbrev pub is_blank : Class → Bool
is_blank Blank = true
is_blank _ = false

-- two neighboring characters are in one word; a sign is always a word of its own, and `=` can follow `!`, `<`, `>` and
-- itself
abbrev pub are_joined : Class → Class → Bool
are_joined Letter Letter = true
are_joined Connective Connective = true
are_joined Negation Equals = true
are_joined Order Equals = true
are_joined Equals Equals = true
are_joined _ _ = false

pub record Word : Type 0 where
  pub at : ℕ
  pub bytes : List ℕ

-- a character is in one word with the one after it
abbrev pub goes_on : ℕ → List ℕ → Bool
goes_on c [] = false
goes_on c (d ∷ cs) = are_joined (class_of c) (class_of d)

-- these words, the first of which now begins with this character at the offset `at`
abbrev pub grown : ℕ → ℕ → List Word → List Word
grown c at [] = []
grown c at (w ∷ ws) = record { at = at; bytes = c ∷ w.bytes } ∷ ws

-- the words of a text that begins at the offset `at`
abbrev pub words_at : ℕ → List ℕ → List Word
words_at at [] = []
words_at at (c ∷ cs) =
    if is_blank (class_of c) then words_at (at + 1) cs
    else (if goes_on c cs then grown c at (words_at (at + 1) cs)
    else (record { at = at; bytes = c ∷ [] } ∷ words_at (at + 1) cs))

-- the words of a text from an offset on
abbrev pub words_from : List ℕ → ℕ → List Word
words_from text from = words_at from (drop from text)

-- the first word from the offset `from` on begins and ends at these offsets
pub record IsNextWord (text : List ℕ) (from : ℕ) (word : Span) : Type 0 where
  pub after : from ≤ word.start
  pub nonempty : word.start < word.end
  pub inside : word.end ≤ length text
  pub words : words_from text from ≡ record { at = word.start; bytes = slice_range text word.start word.end }
      ∷ words_from text word.end
