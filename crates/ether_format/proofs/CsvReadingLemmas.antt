-- A line of CSV is a record of one list of texts.
use Rattle.std.proofs.Common.{◌≡◌, inl, inr, ℕ, List, [], ◌∷◌, ◌++◌, drop, map, Bool, true, false, refl, sym, ap, subst, ◌∙◌, append_assoc, append-nil}
use Rattle.std.specs.Prelude.{◌||◌, nat_eq, codes, if◌then◌else◌, slice_index_or}
use Rattle.std.specs.List.{flat_map}
use Rattle.std.proofs.lemmas.Bool.{eqb-true}
use Rattle.ether_format.specs.Columns.{column_name}
use Rattle.ether_format.specs.Csv.{csv_field, csv_record, csv_text, escaped, has_special, is_special}
use Rattle.ether_format.specs.CsvReading.{IsField, IsRecord, RecordsAreRead}
use Rattle.ether_format.proofs.Names.{true_false}

plain_first : (b : ℕ) (bs : List ℕ) → has_special (b ∷ bs) ≡ false → is_special b ≡ false
plain_first b bs plain = by (is_special b) plain
  where
    by : (p : Bool) → (p || has_special bs) ≡ false → p ≡ false
    by false are = refl
    by true are = absurd cc

plain_rest : (b : ℕ) (bs : List ℕ) → has_special (b ∷ bs) ≡ false → has_special bs ≡ false
plain_rest b bs plain = by (is_special b) plain
  where
    by : (p : Bool) → (p || has_special bs) ≡ false → has_special bs ≡ false
    by false are = are
    by true are = absurd cc

-- what follows a field begins with a comma or CR
abbrev Follows : List ℕ → Type 0
Follows [] = ⊥
Follows (b ∷ bs) = (is_special b ≡ true) × (nat_eq b 34 ≡ false)

no_quote : (l m : List ℕ) → Follows l → l ≡ 34 ∷ m → ⊥
no_quote [] m follows is = absurd follows
no_quote (b ∷ l) m follows is =
    true_false (sym (ap (λ (k : List ℕ). nat_eq (slice_index_or k 0 0) 34) is) ∙ follows.1)

-- ---- two fields at the begin of one line

abbrev Same : (text other after later : List ℕ) → Type 0
Same text other after later = (text ≡ other) × (after ≡ later)

plain_split : (t u r s : List ℕ) → has_special t ≡ false → has_special u ≡ false → Follows r → Follows s
    → t ++ r ≡ u ++ s → Same t u r s
plain_split [] [] r s one two after later is = (refl, is)
plain_split [] (c ∷ u) [] s one two after later is = absurd after
plain_split [] (c ∷ u) (b ∷ r) s one two after later is =
    absurd
    (true_false (sym after.0 ∙ ap (λ (k : List ℕ). is_special (slice_index_or k 0 0)) is ∙ plain_first c u two))
plain_split (b ∷ t) [] r [] one two after later is = absurd later
plain_split (b ∷ t) [] r (c ∷ s) one two after later is =
    absurd
    (true_false (sym later.0 ∙ ap (λ (k : List ℕ). is_special (slice_index_or k 0 0)) (sym is) ∙ plain_first b t one))
plain_split (b ∷ t) (c ∷ u) r s one two after later is =
    let same = plain_split t u r s (plain_rest b t one) (plain_rest c u two) after later (ap (drop 1) is) in
    let head : b ≡ c = ap (λ (k : List ℕ). slice_index_or k 0 0) is in
    ((λ i. head i ∷ same.0 i), same.1)

abbrev spelled : (quote : Bool) → ℕ → List ℕ
spelled quote b = if quote then 34 ∷ 34 ∷ [] else b ∷ []

quote_split : (t u r s : List ℕ) → Follows r → Follows s → escaped t ++ (34 ∷ r) ≡ escaped u ++ (34 ∷ s)
    → Same t u r s
quote_split [] [] r s after later is = (refl, ap (drop 1) is)
quote_split [] (c ∷ u) r s after later is = by (nat_eq c 34) refl is
  where
    by : (q : Bool) → nat_eq c 34 ≡ q → 34 ∷ r ≡ (spelled q c ++ escaped u) ++ (34 ∷ s) → Same [] (c ∷ u) r s
    by true quote are = absurd (no_quote r (escaped u ++ (34 ∷ s)) after (ap (drop 1) are))
    by false quote are =
        absurd (true_false (ap (λ (k : List ℕ). nat_eq (slice_index_or k 0 0) 34) are ∙ quote))
quote_split (b ∷ t) [] r s after later is = by (nat_eq b 34) refl is
  where
    by : (q : Bool) → nat_eq b 34 ≡ q → (spelled q b ++ escaped t) ++ (34 ∷ r) ≡ 34 ∷ s → Same (b ∷ t) [] r s
    by true quote are = absurd (no_quote s (escaped t ++ (34 ∷ r)) later (sym (ap (drop 1) are)))
    by false quote are =
        absurd (true_false (sym (ap (λ (k : List ℕ). nat_eq (slice_index_or k 0 0) 34) are) ∙ quote))
quote_split (b ∷ t) (c ∷ u) r s after later is =
    by (nat_eq b 34) (nat_eq c 34) refl refl (quote_split t u r s after later) is
  where
    by : (p q : Bool) → nat_eq b 34 ≡ p → nat_eq c 34 ≡ q
        → (escaped t ++ (34 ∷ r) ≡ escaped u ++ (34 ∷ s) → Same t u r s)
        → (spelled p b ++ escaped t) ++ (34 ∷ r) ≡ (spelled q c ++ escaped u) ++ (34 ∷ s)
        → Same (b ∷ t) (c ∷ u) r s
    by true true one two others are =
        let same = others (ap (drop 2) are) in
        let head : b ≡ c = eqb-true b 34 one ∙ sym (eqb-true c 34 two) in
        ((λ i. head i ∷ same.0 i), same.1)
    by true false one two others are =
        absurd (true_false (ap (λ (k : List ℕ). nat_eq (slice_index_or k 0 0) 34) are ∙ two))
    by false true one two others are =
        absurd (true_false (sym (ap (λ (k : List ℕ). nat_eq (slice_index_or k 0 0) 34) are) ∙ one))
    by false false one two others are =
        let same = others (ap (drop 1) are) in
        let head : b ≡ c = ap (λ (k : List ℕ). slice_index_or k 0 0) are in
        ((λ i. head i ∷ same.0 i), same.1)

-- a text without such bytes does not begin as an enclosed one
apart : (t r m : List ℕ) → has_special t ≡ false → Follows r → t ++ r ≡ 34 ∷ m → ⊥
apart [] r m plain after is = no_quote r m after is
apart (b ∷ t) r m plain after is =
    true_false (sym (ap (λ (k : List ℕ). is_special (slice_index_or k 0 0)) is) ∙ plain_first b t plain)

enclosed : (text after : List ℕ)
    → (codes "\"" ++ (escaped text ++ codes "\"")) ++ after ≡ 34 ∷ (escaped text ++ (34 ∷ after))
enclosed text after = ap (λ (l : List ℕ). 34 ∷ l) (append_assoc (escaped text) (codes "\"") after)

split : (t u f g r s : List ℕ) → IsField t f → IsField u g → f ++ r ≡ g ++ s → Follows r → Follows s → Same t u r s
split t u f g r s (inl (plain, one)) (inl (also, two)) is after later =
    plain_split t u r s plain also after later
    (ap (λ (l : List ℕ). l ++ r) (sym one) ∙ is ∙ ap (λ (l : List ℕ). l ++ s) two)
split t u f g r s (inl (plain, one)) (inr two) is after later =
    absurd
    (apart t r _ plain after
    (ap (λ (l : List ℕ). l ++ r) (sym one) ∙ is ∙ ap (λ (l : List ℕ). l ++ s) two ∙ enclosed u s))
split t u f g r s (inr one) (inl (plain, two)) is after later =
    absurd
    (apart u s _ plain later
    (ap (λ (l : List ℕ). l ++ s) (sym two) ∙ sym is ∙ ap (λ (l : List ℕ). l ++ r) one ∙ enclosed t r))
split t u f g r s (inr one) (inr two) is after later =
    quote_split t u r s after later
    (ap (drop 1)
    (sym (enclosed t r) ∙ ap (λ (l : List ℕ). l ++ r) (sym one) ∙ is ∙ ap (λ (l : List ℕ). l ++ s) two
    ∙ enclosed u s))

-- ---- records

abbrev break : List ℕ
break = 13 ∷ 10 ∷ []

abbrev first_is_comma : List ℕ → Bool
first_is_comma l = nat_eq (slice_index_or l 0 0) 44

both_last : (t u line f g : List ℕ) → IsField t f → IsField u g → line ≡ f ++ break → line ≡ g ++ break → t ≡ u
both_last t u line f g a b one two = (split t u f g break break a b (sym one ∙ two) (refl, refl) (refl, refl)).0

last_more : (t u line f g rest : List ℕ) → IsField t f → IsField u g → line ≡ f ++ break
    → line ≡ g ++ (codes "," ++ rest) → ⊥
last_more t u line f g rest a b one two =
    let same = split t u f g break (codes "," ++ rest) a b (sym one ∙ two) (refl, refl) (refl, refl) in
    true_false (sym (ap first_is_comma same.1))

both_more : (t u line f g rest more : List ℕ) → IsField t f → IsField u g → line ≡ f ++ (codes "," ++ rest)
    → line ≡ g ++ (codes "," ++ more) → Same t u rest more
both_more t u line f g rest more a b one two =
    let same = split t u f g (codes "," ++ rest) (codes "," ++ more) a b (sym one ∙ two) (refl, refl) (refl, refl) in
    (same.0, ap (drop 1) same.1)

one_record : (texts others : List (List ℕ)) (line : List ℕ) → IsRecord texts line → IsRecord others line
    → texts ≡ others
one_record [] others line a b = absurd a
one_record (t ∷ []) [] line a b = absurd b
one_record (t ∷ x ∷ ts) [] line a b = absurd b
one_record (t ∷ []) (u ∷ []) line a b =
    ap (λ (l : List ℕ). l ∷ []) (both_last t u line a.0 b.0 a.1 b.1 a.2 b.2)
one_record (t ∷ []) (u ∷ y ∷ us) line a b = absurd (last_more t u line a.0 b.0 b.1 a.1 b.2 a.2 b.3)
one_record (t ∷ x ∷ ts) (u ∷ []) line a b = absurd (last_more u t line b.0 a.0 a.1 b.1 a.2 b.2 a.3)
one_record (t ∷ x ∷ ts) (u ∷ y ∷ us) line a b =
    let same = both_more t u line a.0 b.0 a.1 b.1 a.2 b.2 a.3 b.3 in
    let others = one_record (x ∷ ts) (y ∷ us) b.1 (subst (IsRecord (x ∷ ts)) same.1 a.4) b.4 in
    λ i. same.0 i ∷ others i

field_is : (text : List ℕ) → IsField text (csv_field text)
field_is text = by (has_special text) refl
  where
    by : (b : Bool) → has_special text ≡ b
        → IsField text (if b then codes "\"" ++ (escaped text ++ codes "\"") else text)
    by true is = inr refl
    by false is = inl (is, refl)

module _ {X : Type 0} (text : X → List ℕ) where
  abbrev later : List X → List ℕ
  later columns = flat_map (λ d. codes "," ++ csv_field (text d)) columns

  record_is : (column : X) (columns : List X)
      → IsRecord (map text (column ∷ columns)) (csv_record text (column ∷ columns))
  record_is column [] = (
    csv_field (text column),
    field_is (text column),
    ap (λ (l : List ℕ). l ++ (13 ∷ 10 ∷ [])) (append-nil (csv_field (text column))),
  )
  record_is column (d ∷ columns) = (
    csv_field (text column),
    csv_record text (d ∷ columns),
    field_is (text column),
    append_assoc (csv_field (text column)) ((codes "," ++ csv_field (text d)) ++ later columns) (13 ∷ 10 ∷ []),
    record_is d columns,
  )

pub records_are_read : RecordsAreRead
records_are_read = record {
  row = λ column columns parts. record_is (λ c. csv_text c parts) column columns;
  heading = λ column columns. record_is column_name column columns;
  one = one_record;
}
