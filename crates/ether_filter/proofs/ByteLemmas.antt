-- Places of characters, and pairs of digits.
use Rattle.std.proofs.Common.{◌≡◌, ℕ, ◌+◌, ◌<◌, ◌≤◌, ◌≢◌, List, [], ◌∷◌, ◌++◌, length, drop, refl, sym, ap, ◌∙◌, arith, append_assoc}
use Rattle.std.specs.Prelude.{slice_index, Option, Some, None, option_map}
use Rattle.std.proofs.lemmas.Bool.{ne_eqb, eq-eqb}
use Rattle.std.proofs.lemmas.List.{drop_all, length-drop}
use Rattle.ether_filter.specs.ByteTexts.{place_in, pair_digits_in}
use Rattle.ether_filter.proofs.WordsLemmas.{char_at}

pub place_here : (c : ℕ) (text : List ℕ) (i : ℕ) → i < length text → slice_index text i ≡ c
    → place_in c i (drop i text) ≡ Some i
place_here c text i lt is = rw (char_at text i lt, eq-eqb (slice_index text i) c is) refl

pub place_later : (c : ℕ) (text : List ℕ) (i : ℕ) → i < length text → slice_index text i ≢ c
    → place_in c i (drop i text) ≡ place_in c (i + 1) (drop (i + 1) text)
place_later c text i lt other = rw (char_at text i lt, ne_eqb (slice_index text i) c other) refl

pub place_never : (c : ℕ) (text : List ℕ) (i : ℕ) → length text ≤ i → place_in c i (drop i text) ≡ None
place_never c text i le = ap (place_in c i) (drop_all i text le)

-- ---- pairs

two_at : (w : List ℕ) (i : ℕ) → i + 1 < length w → drop i w ≡ slice_index w i ∷ slice_index w (i + 1) ∷ drop (i + 2) w
two_at w i lt =
    let next : i + 1 + 1 ≡ i + 2 = omega arith in
    char_at w i (omega (arith, lt))
    ∙ ap (λ (l : List ℕ). slice_index w i ∷ l) (char_at w (i + 1) lt)
    ∙ ap (λ (n : ℕ). slice_index w i ∷ slice_index w (i + 1) ∷ drop n w) next

three_at : (w : List ℕ) (i : ℕ) → i + 2 < length w
    → drop i w ≡ slice_index w i ∷ slice_index w (i + 1) ∷ slice_index w (i + 2) ∷ drop (i + 3) w
three_at w i lt =
    let next : i + 2 + 1 ≡ i + 3 = omega arith in
    two_at w i (omega (arith, lt))
    ∙ ap (λ (l : List ℕ). slice_index w i ∷ slice_index w (i + 1) ∷ l) (char_at w (i + 2) lt)
    ∙ ap (λ (n : ℕ). slice_index w i ∷ slice_index w (i + 1) ∷ slice_index w (i + 2) ∷ drop n w) next

mapped_twice : (front : List ℕ) (a b : ℕ) (o : Option (List ℕ))
    → option_map (λ ds. front ++ ds) (option_map (λ ds. a ∷ b ∷ ds) o)
    ≡ option_map (λ ds. ((front ++ a ∷ []) ++ b ∷ []) ++ ds) o
mapped_twice front a b None = refl
mapped_twice front a b (Some ds) =
    ap Some (sym (append_assoc (front ++ a ∷ []) (b ∷ []) ds ∙ append_assoc front (a ∷ []) (b ∷ ds)))

pub pair_more : (w front : List ℕ) (i : ℕ) → i + 2 < length w → slice_index w (i + 2) ≡ 58
    → option_map (λ ds. front ++ ds) (pair_digits_in (drop i w))
    ≡ option_map (λ ds. ((front ++ slice_index w i ∷ []) ++ slice_index w (i + 1) ∷ []) ++ ds)
    (pair_digits_in (drop (i + 3) w))
pair_more w front i lt colon =
    ap (λ (l : List ℕ). option_map (λ ds. front ++ ds) (pair_digits_in l)) (three_at w i lt)
    ∙ rw (eq-eqb (slice_index w (i + 2)) 58 colon) (mapped_twice front _ _ (pair_digits_in (drop (i + 3) w)))

pub pair_stops : (w front : List ℕ) (i : ℕ) → i + 2 < length w → slice_index w (i + 2) ≢ 58
    → option_map (λ ds. front ++ ds) (pair_digits_in (drop i w)) ≡ None
pair_stops w front i lt other =
    ap (λ (l : List ℕ). option_map (λ ds. front ++ ds) (pair_digits_in l)) (three_at w i lt)
    ∙ rw (ne_eqb (slice_index w (i + 2)) 58 other) refl

pub pair_last : (w front : List ℕ) (i : ℕ) → i + 2 ≡ length w
    → option_map (λ ds. front ++ ds) (pair_digits_in (drop i w))
    ≡ Some ((front ++ slice_index w i ∷ []) ++ slice_index w (i + 1) ∷ [])
pair_last w front i len =
    ap (λ (l : List ℕ). option_map (λ ds. front ++ ds) (pair_digits_in l))
    (two_at w i (omega (arith, len)) ∙ ap (λ (l : List ℕ). slice_index w i ∷ slice_index w (i + 1) ∷ l)
    (drop_all (i + 2) w (omega (arith, len))))
    ∙ ap Some (sym (append_assoc front (slice_index w i ∷ []) (slice_index w (i + 1) ∷ [])))

short_none : (ds : List ℕ) → length ds < 2 → pair_digits_in ds ≡ None
short_none [] lt = refl
short_none (a ∷ []) lt = refl
short_none (a ∷ b ∷ ds) lt = absurd (omega (arith, lt))

pub pair_short : (w front : List ℕ) (i : ℕ) → i ≤ length w → length w < i + 2
    → option_map (λ ds. front ++ ds) (pair_digits_in (drop i w)) ≡ None
pair_short w front i le lt =
    let len = length-drop i w in
    ap (λ (o : Option (List ℕ)). option_map (λ ds. front ++ ds) o)
    (short_none (drop i w) (omega (arith, len, lt, le)))
