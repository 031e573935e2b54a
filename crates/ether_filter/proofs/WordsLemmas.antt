-- Words of a text, found from a place on.
use Rattle.std.proofs.Common.{◌≡◌, ℕ, ◌+◌, ◌-◌, ◌<◌, ◌≤◌, List, [], ◌∷◌, ◌++◌, length, drop, refl, sym, ap, ◌∙◌, true, false, add-one, drop-cons, arith}
use Rattle.std.specs.Prelude.{slice_index, slice_range}
use Rattle.std.proofs.lemmas.List.{drop_all}
use Rattle.etherparse.proofs.SubLists.{part_join, length-part}
use Rattle.ether_filter.specs.declared.text_words.Class.{Class}
use Rattle.ether_filter.specs.declared.text_words.Class.TheVariants.{Blank, Sign, Negation, Order, Equals, Connective, Letter}
use Rattle.ether_filter.specs.Words.{class_of, is_blank, are_joined, goes_on, Word, grown, words_at, words_from}

abbrev pub at_place : List ℕ → ℕ → Class
at_place text i = class_of (slice_index text i)

pub char_at : (text : List ℕ) (i : ℕ) → i < length text → drop i text ≡ slice_index text i ∷ drop (i + 1) text
char_at text i lt = drop-cons text i 0 lt ∙ ap (λ (n : ℕ). slice_index text i ∷ drop n text) (sym (add-one i))

pub blank_passed : (text : List ℕ) (i : ℕ) → i < length text → at_place text i ≡ Blank → words_from text i
    ≡ words_from text (i + 1)
blank_passed text i lt blank = ap (words_at i) (char_at text i lt) ∙ rw blank refl

-- ---- a word from its first character on

-- these characters, one after the other, before what begins the first word
abbrev pub glued : List ℕ → ℕ → List Word → List Word
glued [] at ws = ws
glued (c ∷ cs) at ws = grown c at (glued cs (at + 1) ws)

glued-more : (cs : List ℕ) (c at to : ℕ) (ws : List Word) → to ≡ at + length cs → glued (cs ++ c ∷ []) at ws
    ≡ glued cs at (grown c to ws)
glued-more [] c at to ws is = let here : to ≡ at = omega arith in rw here refl
glued-more (d ∷ cs) c at to ws is = ap (grown d at) (glued-more cs c (at + 1) to ws (omega arith))

glued-word : (cs bytes : List ℕ) (at to : ℕ) (ws : List Word) → to ≡ at + length cs
    → glued cs at (record { at = to; bytes = bytes } ∷ ws) ≡ record { at = at; bytes = cs ++ bytes } ∷ ws
glued-word [] bytes at to ws is = let here : to ≡ at = omega arith in rw here refl
glued-word (d ∷ cs) bytes at to ws is = ap (grown d at) (glued-word cs bytes (at + 1) to ws (omega arith))

one_part : (text : List ℕ) (i : ℕ) → i < length text → slice_range text i (i + 1) ≡ slice_index text i ∷ []
one_part text i lt = let one : i + 1 - i ≡ 1 = omega arith in rw (one, drop-cons text i 0 lt) refl

-- the characters from the start on are of one word, up to the last one before an end
pub record Grows (text : List ℕ) (start end : ℕ) : Type 0 where
  pub last : ℕ
  pub is : end ≡ last + 1
  pub ordered : start ≤ last
  pub inside : last < length text
  pub word : is_blank (at_place text last) ≡ false
  pub words : words_from text start ≡ glued (slice_range text start last) start (words_from text last)

pub grows_first : (text : List ℕ) (start : ℕ) → start < length text → is_blank (at_place text start) ≡ false
    → Grows text start (start + 1)
grows_first text start lt word = let none : start - start ≡ 0 = omega arith in record {
  last = start;
  is = refl;
  ordered = omega arith;
  inside = lt;
  word = word;
  words = rw none refl;
}

joined_word : (a b : Class) → are_joined a b ≡ true → is_blank b ≡ false
joined_word Letter Letter j = refl
joined_word Connective Connective j = refl
joined_word Blank b j = absurd cc
joined_word Sign b j = absurd cc
joined_word Letter Blank j = absurd cc
joined_word Letter b j = refl
joined_word Negation Equals j = refl
joined_word Negation b j = absurd cc
joined_word Order Equals j = refl
joined_word Order b j = absurd cc
joined_word Equals Equals j = refl
joined_word Equals b j = absurd cc
joined_word Connective Blank j = absurd cc
joined_word Connective b j = refl

pub grows_next : (text : List ℕ) (start end : ℕ) → end < length text → Grows text start end
    → are_joined (at_place text (end - 1)) (at_place text end) ≡ true → Grows text start (end + 1)
grows_next text start end lt g joined =
    let i = g.last in
    let before : end - 1 ≡ i = omega (arith, g.is) in
    let joins : are_joined (at_place text i) (at_place text (i + 1)) ≡ true = rw (before, g.is) at joined in
    let next : i + 1 < length text = omega (arith, g.is) in
    let goes : goes_on (slice_index text i) (drop (i + 1) text) ≡ true = rw (char_at text (i + 1) next) joins in
    let more : words_from text i
    ≡ grown (slice_index text i) i (words_from text (i + 1)) = ap (words_at i) (char_at text i g.inside)
    ∙ rw (g.word, goes) refl in
    let len = length-part text start i (omega (arith, g.inside)) in
    record {
      last = i + 1;
      is = ap (λ n. n + 1) g.is;
      ordered = omega (arith, g.ordered);
      inside = omega arith;
      word = joined_word (at_place text i) (at_place text (i + 1)) joins;
      words = g.words ∙ ap (glued (slice_range text start i) start) more
          ∙ sym (glued-more (slice_range text start i) (slice_index text i) start i (words_from text (i + 1))
          (omega (arith, len, g.ordered)))
          ∙ ap (λ (l : List ℕ). glued l start (words_from text (i + 1)))
          (ap (λ (l : List ℕ). slice_range text start i ++ l) (sym (one_part text i g.inside))
          ∙ part_join text start i (i + 1) g.ordered (omega arith));
    }

-- at the end of the text, or before a character of another word
grown_whole : (text : List ℕ) (start end : ℕ) → Grows text start end
    → goes_on (slice_index text (end - 1)) (drop end text) ≡ false
    → words_from text start ≡ record { at = start; bytes = slice_range text start end } ∷ words_from text end
grown_whole text start end g stops =
    let i = g.last in
    let before : end - 1 ≡ i = omega (arith, g.is) in
    let over : goes_on (slice_index text i) (drop (i + 1) text) ≡ false = rw (before, g.is) at stops in
    let one : words_from text i
    ≡ record { at = i; bytes = slice_index text i ∷ [] } ∷ words_from text (i + 1) = ap (words_at i)
    (char_at text i g.inside) ∙ rw (g.word, over) refl in
    let len = length-part text start i (omega (arith, g.inside)) in
    rw g.is
    (g.words ∙ ap (glued (slice_range text start i) start) one
    ∙ glued-word (slice_range text start i) (slice_index text i ∷ []) start i (words_from text (i + 1))
    (omega (arith, len, g.ordered))
    ∙ ap (λ (l : List ℕ). record { at = start; bytes = l } ∷ words_from text (i + 1))
    (ap (λ (l : List ℕ). slice_range text start i ++ l) (sym (one_part text i g.inside))
    ∙ part_join text start i (i + 1) g.ordered (omega arith)))

pub grown_before : (text : List ℕ) (start end : ℕ) → Grows text start end → end < length text
    → are_joined (at_place text (end - 1)) (at_place text end) ≡ false
    → words_from text start ≡ record { at = start; bytes = slice_range text start end } ∷ words_from text end
grown_before text start end g lt apart = grown_whole text start end g (rw (drop-cons text end 0 lt) apart)

pub grown_to_end : (text : List ℕ) (start end : ℕ) → Grows text start end → length text ≤ end
    → words_from text start ≡ record { at = start; bytes = slice_range text start end } ∷ words_from text end
grown_to_end text start end g le = grown_whole text start end g (rw (drop_all end text le) refl)
