-- The words that name a command, as references.
use Rattle.std.proofs.Common.{◌≡◌, ◌≢◌, ◌⊎◌, ℕ, ◌+◌, ◌-◌, ◌^◌, ◌<◌, ◌≤◌, List, [], ◌∷◌, ◌++◌, length, map, take, slice_index, slice_index_or, Option, Some, Bor, codes, inl, inr, refl, sym, ap, subst, ◌∙◌, append_assoc, arith}
use Rattle.std.proofs.Math.ListN.{get_or-map}
use Rattle.std.proofs.Math.Seq.{take-append_seam, get_or-append_seam}
use Rattle.std.proofs.lemmas.List.{length-append, length-map, take-map, map_more, get_or-append-add, take_all, length-take-le}
use Rattle.std.proofs.lemmas.Str.Parse.{numerals_by_value, tells_digits, digits_value_short, without_leading_plus_none}
use Rattle.std.specs.Str.Parse.{AllDigits, IsNumeral, digits_value, without_leading_plus}
use Rattle.ether_text.specs.Tool.Mode.{NamesMode, NamesNoMode, no_word, eth, fcs, sll, feed, ether_type}
use Rattle.ether_text.specs.Tool.Command.{NamesLimit, NamesCommand, NamesNoCommand, plain, limited}
use Rattle.ether_text.specs.declared.tool.mode.Mode.{Mode}

-- the words of a mode are at most two
few_words : (words : List (List ℕ)) (mode : Mode) → NamesMode words mode → length words ≤ 2
few_words _ _ no_word = omega arith
few_words _ _ eth = omega arith
few_words _ _ fcs = omega arith
few_words _ _ sll = omega arith
few_words _ _ feed = omega arith
few_words _ _ (ether_type digits number named) = omega arith

limited_by : (words front : List (List ℕ)) (digits : List ℕ) (mode : Mode) (limit : ℕ)
    → words ≡ front ++ codes "limit" ∷ digits ∷ [] → 1 ≤ length front
    → NamesMode front mode → NamesLimit digits limit → NamesCommand words (mode, Some limit)
limited_by words [] digits mode limit is some names number = absurd (omega arith)
limited_by words (word ∷ front) digits mode limit is some names number =
    subst (λ (l : List (List ℕ)). NamesCommand l (mode, Some limit)) (sym is)
    (limited word front digits mode limit names number)

-- the words of a command are those of a mode, or those of a mode before `limit` and a number
parted : (words : List (List ℕ)) (command : Mode × Option ℕ) → NamesCommand words command → NamesMode words command.0
    ⊎ ((front : List (List ℕ)) × (digits : List ℕ) × (limit : ℕ) × (words ≡ front ++ codes "limit" ∷ digits ∷ [])
    × (1 ≤ length front) × NamesMode front command.0 × NamesLimit digits limit)
parted _ _ (plain words mode names) = inl names
parted _ _ (limited word words digits mode limit names number) =
    inr (word ∷ words, digits, limit, refl, omega arith, names, number)

module _ (words : List (Bor (List ℕ))) where
  abbrev texts : List (List ℕ)
  texts = map (λ word. word.now) words

  abbrev front : List (Bor (List ℕ))
  front = take (length words - 2) words

  -- the words, by the last two of them
  parts : (default other : Bor (List ℕ)) → 2 ≤ length words
      → texts
      ≡ map (λ word. word.now) front
      ++ (slice_index_or words (length words - 2) default).now
      ∷ (slice_index_or words (length words - 1) other).now ∷ []
  parts default other some =
      let n = length words in
      let last : n - 1 + 1 ≡ n = omega arith in
      let next : n - 2 + 1 ≡ n - 1 = omega arith in
      let whole : take (n - 1 + 1) words ≡ words = ap (λ (k : ℕ). take k words) last ∙ take_all n words (omega arith) in
      sym (ap (map (λ word. word.now)) whole)
      ∙ map_more (λ word. word.now) words (n - 1) other (omega arith)
      ∙ ap (λ (k : ℕ). map (λ word. word.now) (take k words) ++ (slice_index_or words (n - 1) other).now ∷ [])
      (sym next)
      ∙ ap (λ (l : List (List ℕ)). l ++ (slice_index_or words (n - 1) other).now ∷ [])
      (map_more (λ word. word.now) words (n - 2) default (omega arith))
      ∙ append_assoc (map (λ word. word.now) front) ((slice_index_or words (n - 2) default).now ∷ [])
      ((slice_index_or words (n - 1) other).now ∷ [])

  module _ (before : List (List ℕ)) (word digits : List ℕ) (is : texts ≡ before ++ word ∷ digits ∷ []) where
    count : length words ≡ length before + 2
    count = sym (length-map words (λ word. word.now)) ∙ ap length is ∙ length-append before (word ∷ digits ∷ [])

    front_is : map (λ word. word.now) front ≡ before
    front_is =
        let n : length words - 2 ≡ length before = let k = count in omega (arith, k) in
        sym (take-map (λ word. word.now) (length words - 2) words) ∙ ap (λ (k : ℕ). take k texts) n
        ∙ ap (take (length before)) is ∙ take-append_seam before (word ∷ digits ∷ [])

    word_is : (default : Bor (List ℕ)) → (slice_index_or words (length words - 2) default).now ≡ word
    word_is default =
        let n : length words - 2 ≡ length before = let k = count in omega (arith, k) in
        sym (get_or-map (λ word. word.now) words (length words - 2) default)
        ∙ ap (λ (k : ℕ). slice_index_or texts k default.now) n
        ∙ ap (λ (l : List (List ℕ)). slice_index_or l (length before) default.now) is
        ∙ get_or-append_seam before word (digits ∷ []) default.now

    digits_is : (default : Bor (List ℕ)) → (slice_index_or words (length words - 1) default).now ≡ digits
    digits_is default =
        let n : length words - 1 ≡ length before + 1 = let k = count in omega (arith, k) in
        sym (get_or-map (λ word. word.now) words (length words - 1) default)
        ∙ ap (λ (k : ℕ). slice_index_or texts k default.now) n
        ∙ ap (λ (l : List (List ℕ)). slice_index_or l (length before + 1) default.now) is
        ∙ get_or-append-add before (word ∷ digits ∷ []) 1 default.now

  -- ---- with `limit`

  too_few : {A : Type 0} → 3 ≤ length words → (mode : Mode) → NamesMode texts mode → A
  too_few some mode names =
      let few = few_words texts mode names in
      let n = length-map words (λ word. word.now) in
      absurd (omega (arith, few, n, some))

  -- a mode, `limit` and a number
  pub names_limited : (default other : Bor (List ℕ)) (mode : Mode) (limit : ℕ) → 3 ≤ length words
      → (slice_index_or words (length words - 2) default).now ≡ codes "limit"
      → NamesMode (map (λ word. word.now) front) mode
      → NamesLimit (slice_index_or words (length words - 1) other).now limit → NamesCommand texts (mode, Some limit)
  names_limited default other mode limit some is names number =
      let whole : texts
      ≡ map (λ word. word.now) front ++ codes "limit" ∷ (slice_index_or words (length words - 1) other).now ∷ [] =
      parts default other (omega arith)
      ∙ ap
      (λ (w : List ℕ).
      map (λ word. word.now) front ++ w ∷ (slice_index_or words (length words - 1) other).now ∷ [])
      is in
      let mapped = length-map front (λ word. word.now) in
      let taken = length-take-le (length words - 2) words (omega arith) in
      limited_by texts (map (λ word. word.now) front) (slice_index_or words (length words - 1) other).now mode limit
      whole (omega (arith, mapped, taken)) names number

  -- no mode before `limit`
  pub names_no_mode : 3 ≤ length words → NamesNoMode (map (λ word. word.now) front) → NamesNoCommand texts
  names_no_mode some none command names = elim (parted texts command names) [
    | inl mode ↦ too_few some command.0 mode
    | inr p ↦ let (before, digits, limit, is, more, mode, number) = p in
        none command.0
        (subst (λ (l : List (List ℕ)). NamesMode l command.0) (sym (front_is before (codes "limit") digits is)) mode)
  ]

  -- no number after it
  pub names_no_limit : (default : Bor (List ℕ)) → 3 ≤ length words
      → ((limit : ℕ) → ¬ (NamesLimit (slice_index_or words (length words - 1) default).now limit))
      → NamesNoCommand texts
  names_no_limit default some none command names = elim (parted texts command names) [
    | inl mode ↦ too_few some command.0 mode
    | inr p ↦ let (before, digits, limit, is, more, mode, number) = p in
        none limit
        (subst (λ (l : List ℕ). NamesLimit l limit) (sym (digits_is before (codes "limit") digits is default))
        number)
  ]

  -- ---- without it

  -- neither a mode, nor three words
  pub names_nothing : length words < 3 → NamesNoMode texts → NamesNoCommand texts
  names_nothing few none command names = elim (parted texts command names) [
    | inl mode ↦ none command.0 mode
    | inr p ↦ let (before, digits, limit, is, more, mode, number) = p in
        let n = count before (codes "limit") digits is in absurd (omega (arith, n, more, few))
  ]

  -- neither a mode, nor `limit`
  pub names_no_command : (default : Bor (List ℕ))
      → (slice_index_or words (length words - 2) default).now ≢ codes "limit" → NamesNoMode texts → NamesNoCommand texts
  names_no_command default other none command names = elim (parted texts command names) [
    | inl mode ↦ none command.0 mode
    | inr p ↦ let (before, digits, limit, is, more, mode, number) =
        p in other (word_is before (codes "limit") digits is default)
  ]

-- ---- the number

-- a text that does not begin with a plus
no_plus : (bytes : List ℕ) → ((rest : List ℕ) → bytes ≡ 43 ∷ rest → ⊥) → without_leading_plus bytes ≡ bytes
no_plus bytes none = without_leading_plus_none bytes (first bytes none)
  where
    first : (l : List ℕ) → ((rest : List ℕ) → l ≡ 43 ∷ rest → ⊥) → slice_index l 0 ≢ 43
    first [] other is = absurd (omega (arith, is))
    first (byte ∷ l) other is = other l (ap (λ (b : ℕ). b ∷ l) is)

-- four digits write a number that fits
limit_fits : (word : List ℕ) (limit : ℕ) → NamesLimit word limit → digits_value 10 word < 2 ^ 64
limit_fits word limit names =
    let below = digits_value_short (numerals_by_value (AllDigits 10) tells_digits) word 4 names.digits.1 names.few in
    omega (arith, below)

pub names_no_number : (word : List ℕ) → ((rest : List ℕ) → word ≡ 43 ∷ rest → ⊥)
    → ¬ (IsNumeral 10 (without_leading_plus word) × (digits_value 10 (without_leading_plus word) < 2 ^ 64))
    → (limit : ℕ) → ¬ (NamesLimit word limit)
names_no_number word unsigned none limit names =
    subst (λ (l : List ℕ). ¬ (IsNumeral 10 l × (digits_value 10 l < 2 ^ 64))) (no_plus word unsigned) none
    (names.digits, limit_fits word limit names)
