-- A text that names columns, word by word.
use Rattle.std.proofs.Common.{◌≡◌, ℕ, suc, zero, ◌<◌, ◌≤◌, List, [], ◌∷◌, ◌++◌, length, map, Bool, true, false, Option, Some, None, Bor, refl, sym, ap, subst, ◌∙◌, arith, append_assoc, append-nil, length-append}
use Rattle.std.specs.Prelude.{◌&&◌, ◌==◌, ◌≢◌, not, slice_index_or, IfNone}
use Rattle.std.specs.Option.{option_map}
use Rattle.std.specs.List.{All, IsAmong, slice_split}
use Rattle.std.proofs.lemmas.List.{length-map, map-append}
use Rattle.std.proofs.lemmas.List.Elements.{All-nil, All-cons, All-append}
use Rattle.std.proofs.lemmas.List.Splits.{slice_split_none}
use Rattle.ether_fields.specs.Fields.{field_view, column_names, section_name, section_rows}
use Rattle.ether_fields.specs.declared.field.Field.{Field}
use Rattle.ether_fields.specs.declared.section.Section.{Section}
use Rattle.ether_fields.specs.declared.section.Section.TheVariants as sections
use Rattle.ether_format.specs.Columns.{AreColumns, ColumnValue, IsColumn, column_name}
use Rattle.ether_format.specs.Splits.{SplitsAt, SplitsWord}
use Rattle.ether_format.proofs.SplitLemmas.{no_split, one_split, parts_are}
use Rattle.ether_format.proofs.Names.{both, is_false, one_section}

-- ---- the name of a column

abbrev has_no_dot : List ℕ → Bool
has_no_dot [] = true
has_no_dot (b ∷ bs) = not (b == 46) && has_no_dot bs

no_dot : (bs : List ℕ) → has_no_dot bs ≡ true → All (λ b. (b == 46) ≡ false) bs
no_dot [] holds = All-nil (λ b. (b == 46) ≡ false)
no_dot (b ∷ bs) holds =
    let two = both _ _ holds in All-cons (λ c. (c == 46) ≡ false) b bs (is_false (b == 46) two.0) (no_dot bs two.1)

named_without : (s : Section) → has_no_dot (section_name s) ≡ true
named_without sections.Frame = refl
named_without sections.Eth = refl
named_without sections.Sll = refl
named_without sections.Sll2 = refl
named_without sections.Vlan = refl
named_without sections.Macsec = refl
named_without sections.Arp = refl
named_without sections.Headers = refl
named_without sections.Rest = refl
named_without sections.Fault = refl

splits_name : (it : ColumnValue) (name : List ℕ) → IsColumn it → column_name it ≡ name
    → SplitsAt 46 name it.section it.member
splits_name it name is same = record {
  none_before = subst (All (λ b. (b == 46) ≡ false)) (sym is.is_section)
      (no_dot (section_name is.of) (named_without is.of));
  parts = sym same;
}

-- a text without a dot is no column's name
pub no_column_plain : (name : List ℕ) → All (λ b. (b == 46) ≡ false) name → (it : ColumnValue) → IsColumn it
    → column_name it ≢ name
no_column_plain name none it is same = no_split 46 refl name it.section it.member none (splits_name it name is same)

-- .. nor one whose front is not the name of a section
pub no_column_section : (name before after : List ℕ) → SplitsAt 46 name before after
    → ((s : Section) → section_name s ≢ before)
    → (it : ColumnValue) → IsColumn it → column_name it ≢ name
no_column_section name before after split none it is same =
    let one = one_split 46 refl name it.section it.member before after (splits_name it name is same) split in
    none is.of (sym is.is_section ∙ one.0)

-- .. nor one whose back is not the name of a member
pub no_column_member : (name before after : List ℕ) (s : Section) (fields : List Field) → SplitsAt 46 name before after
    → section_name s ≡ before → map field_view fields ≡ section_rows s
    → ¬ (IsAmong (column_names (map field_view fields)) after)
    → (it : ColumnValue) → IsColumn it → column_name it ≢ name
no_column_member name before after s fields split is_name are none it is same =
    let one = one_split 46 refl name it.section it.member before after (splits_name it name is same) split in
    let here : is.of ≡ s = one_section is.of s (sym is.is_section ∙ one.0 ∙ sym is_name) in
    none
    (subst (λ (l : List (List ℕ)). IsAmong l after)
    (ap (λ k. column_names (section_rows k)) here ∙ ap column_names (sym are))
    (subst (IsAmong (column_names (section_rows is.of))) one.1 is.is_field))

-- ---- the words of a text

abbrev words_of : List ℕ → List (List ℕ)
words_of text = slice_split (λ b. b == 44) text

-- the words after those that are taken
abbrev pub left_of : Option (Bor (List ℕ)) → List (List ℕ)
left_of None = []
left_of (Some text) = words_of text.now

pub word_first : (text word : List ℕ) (after : Option (Bor (List ℕ)))
    → SplitsWord text word (option_map (λ t. t.now) after)
    → words_of text ≡ word ∷ left_of after
word_first text word None is = slice_split_none (λ b. b == 44) text is.1 ∙ ap (λ w. w ∷ []) (sym is.0)
word_first text word (Some after) is = parts_are 44 refl text word after.now is

-- columns whose names are the first words of a text, and the others
pub record TakesNames (text : List ℕ) (columns : List ColumnValue) (left : List (List ℕ)) : Type 0 where
  pub names : words_of text ≡ map column_name columns ++ left
  pub known : All IsColumn columns
  pub most : length columns ≤ 32

pub next_word : (text word : List ℕ) (columns : List ColumnValue) (rest after : Option (Bor (List ℕ)))
    (t : Bor (List ℕ))
    → TakesNames text columns (left_of rest) → rest ≡ Some t → SplitsWord t.now word (option_map (λ t. t.now) after)
    → TakesNames text columns (word ∷ left_of after)
next_word text word columns rest after t taken is split =
    subst (TakesNames text columns) (ap left_of is ∙ word_first t.now word after split) taken

pub fewer : (word : List ℕ) (rest after : Option (Bor (List ℕ))) (t : Bor (List ℕ)) → rest ≡ Some t
    → SplitsWord t.now word (option_map (λ t. t.now) after) → length (left_of after) < length (left_of rest)
fewer word rest after t is split =
    let same : length (left_of rest) ≡ length (word ∷ left_of after) =
    ap length (ap left_of is ∙ word_first t.now word after split) in
    omega (arith, same)

pub none_taken : (text word : List ℕ) (after : Option (Bor (List ℕ)))
    → SplitsWord text word (option_map (λ t. t.now) after)
    → TakesNames text [] (word ∷ left_of after)
none_taken text word after is = record {
  names = word_first text word after is;
  known = All-nil IsColumn;
  most = omega arith;
}

pub one_more : (text word : List ℕ) (columns : List ColumnValue) (c : ColumnValue) (left : List (List ℕ))
    → TakesNames text columns (word ∷ left)
    → IsColumn c → column_name c ≡ word → length columns < 32 → TakesNames text (columns ++ (c ∷ [])) left
one_more text word columns c left taken is same room = record {
  names =
      taken.names ∙ ap (λ w. map column_name columns ++ (w ∷ left)) (sym same)
      ∙ sym (append_assoc (map column_name columns) (column_name c ∷ []) left)
      ∙ ap (λ l. l ++ left) (sym (map-append column_name columns (c ∷ [])));
  known = All-append IsColumn columns (c ∷ []) taken.known (All-cons IsColumn c [] is (All-nil IsColumn));
  most = let len = length-append columns (c ∷ []) in omega (arith, len, room);
}

pub all_taken : (text : List ℕ) (columns : List ColumnValue) → TakesNames text columns [] → AreColumns text columns
all_taken text columns taken = record { names = taken.names ∙ append-nil _; known = taken.known; most = taken.most }

at_next : (ws : List (List ℕ)) (word : List ℕ) (left : List (List ℕ)) (e : List ℕ)
    → slice_index_or (ws ++ word ∷ left) (length ws) e ≡ word
at_next [] word left e = refl
at_next (w ∷ ws) word left e = at_next ws word left e

at_map : (cs : List ColumnValue) (n : ℕ) (d : ColumnValue) (e : List ℕ) → n < length cs
    → slice_index_or (map column_name cs) n e ≡ column_name (slice_index_or cs n d)
at_map [] n d e lt = absurd (omega (arith, lt))
at_map (c ∷ cs) zero d e lt = refl
at_map (c ∷ cs) (suc n) d e lt = at_map cs n d e (omega (arith, lt))

longer : (text word : List ℕ) (columns others : List ColumnValue) (left : List (List ℕ))
    → TakesNames text columns (word ∷ left)
    → AreColumns text others → length columns < length others
longer text word columns others left taken are =
    let same : length (map column_name others) ≡ length (map column_name columns ++ (word ∷ left)) =
    ap length (sym are.names ∙ taken.names) in
    let a = length-map others column_name in
    let b = length-map columns column_name in
    let sum = length-append (map column_name columns) (word ∷ left) in
    omega (arith, same, a, b, sum)

-- a word that is no column's name
pub no_next : (text word : List ℕ) (columns : List ColumnValue) (left : List (List ℕ))
    → TakesNames text columns (word ∷ left)
    → ((it : ColumnValue) → IsColumn it → column_name it ≢ word) → (others : List ColumnValue) → AreColumns text others
    → ⊥
no_next text word columns left taken none others are =
    let d : ColumnValue = record { section = []; member = [] } in
    let lt = longer text word columns others left taken are in
    let n = length columns in
    let len : length (map column_name columns) ≡ n = length-map columns column_name in
    none (slice_index_or others n d) (are.known n d lt)
    (sym (at_map others n d [] lt) ∙ ap (λ (l : List (List ℕ)). slice_index_or l n []) (sym are.names ∙ taken.names)
    ∙ ap (λ (k : ℕ). slice_index_or (map column_name columns ++ (word ∷ left)) k []) (sym len)
    ∙ at_next (map column_name columns) word left [])

pub too_many : (text word : List ℕ) (columns : List ColumnValue) (left : List (List ℕ))
    → TakesNames text columns (word ∷ left)
    → 32 ≤ length columns → (others : List ColumnValue) → AreColumns text others → ⊥
too_many text word columns left taken full others are =
    let lt = longer text word columns others left taken are in
    let most = are.most in
    omega (arith, lt, most, full)

pub if_none : {A : Type 0} (o : Option A) (P : Type 0) → P → IfNone o P
if_none None P is = is
if_none (Some a) P is = tt
