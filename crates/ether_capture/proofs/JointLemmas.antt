-- The texts of all columns of a row together.
use Rattle.std.proofs.Common.{◌≡◌, ℕ, List, [], ◌∷◌, ◌++◌, length, Bool, true, false, Option, Some, None, refl, sym, ap, subst, ◌∙◌, append_assoc, arith}
use Rattle.std.specs.Prelude.{◌==◌, ◌≢◌, if◌then◌else◌, unwrap_or}
use Rattle.std.specs.List.{flat_map}
use Rattle.std.proofs.lemmas.Bool.{eqb-true}
use Rattle.ether_capture.specs.declared.count.Count.{Count}
use Rattle.ether_capture.specs.KeyCounts.{AddsHit, Hit}
use Rattle.ether_capture.specs.RowFields.{after_first, are_empty, fields_if, joined, key_text, last_piece, pieces, row_fields}
use Rattle.ether_capture.specs.Waiting.{Adds, hits_of, spread}
use Rattle.ether_capture.proofs.KeyCountLemmas.{Fits}
use Rattle.ether_capture.proofs.WaitingLemmas.{adds_none, adds_one}

-- ---- fields with tabs between them are the text

tabs_before : (fs : List (List ℕ)) (f : List ℕ) → flat_map (λ g. 9 ∷ g) (fs ++ f ∷ []) ≡ 9 ∷ joined (fs ++ f ∷ [])
tabs_before [] f = refl
tabs_before (g ∷ gs) f = refl

joined_after : (before text : List ℕ) → joined (pieces 9 before text ++ last_piece 9 before text ∷ []) ≡ before ++ text
joined_after before [] = refl
joined_after before (b ∷ bs) = by (b == 9) refl (joined_after [] bs) (joined_after (before ++ b ∷ []) bs)
  where
    by : (c : Bool) → (b == 9) ≡ c → joined (pieces 9 [] bs ++ last_piece 9 [] bs ∷ []) ≡ bs
        → joined (pieces 9 (before ++ b ∷ []) bs ++ last_piece 9 (before ++ b ∷ []) bs ∷ [])
        ≡ (before ++ b ∷ []) ++ bs
        → joined ((if c then before ∷ pieces 9 [] bs else pieces 9 (before ++ b ∷ []) bs)
        ++ (if c then last_piece 9 [] bs else last_piece 9 (before ++ b ∷ []) bs) ∷ []) ≡ before ++ b ∷ bs
    by true e after on =
        ap (λ l. before ++ l)
        (tabs_before (pieces 9 [] bs) (last_piece 9 [] bs) ∙ ap (λ l. 9 ∷ l) after
        ∙ ap (λ n. n ∷ bs) (sym (eqb-true b 9 e)))
    by false e after on = on ∙ append_assoc before (b ∷ []) bs

joined_fields : (text : List ℕ) → joined (row_fields text) ≡ text
joined_fields text = joined_after [] text

pub joined_if : (text : Option (List ℕ)) → joined (fields_if text) ≡ unwrap_or text []
joined_if None = refl
joined_if (Some text) = joined_fields text

-- ---- all are empty

pub next_empty : (left text : List ℕ) (later : Option (List ℕ)) → row_fields left ≡ text ∷ fields_if later
    → length text ≡ 0 → are_empty (row_fields left) ≡ are_empty (fields_if later)
next_empty left [] later is zero = ap are_empty is
next_empty left (b ∷ bs) later is zero = absurd (omega (arith, zero))

pub one_not_empty : (left text : List ℕ) (later : Option (List ℕ)) → row_fields left ≡ text ∷ fields_if later
    → length text ≢ 0 → are_empty (row_fields left) ≡ false
one_not_empty left [] later is some = absurd (some refl)
one_not_empty left (b ∷ bs) later is some = ap are_empty is

-- ---- packets count once, if any text is not empty

pub none_together : (heading texts : List ℕ) (count : Count) (table : List ℕ → Option Count)
    → are_empty (row_fields texts) ≡ true
    → Adds (spread true heading (record { key = texts; count = count })) table table
none_together heading texts count table e =
    subst (λ l. Adds l table table)
    (ap (λ (b : Bool). hits_of count
    (if b then [] else key_text (joined (after_first (row_fields heading))) (joined (row_fields texts)) ∷ [])) (sym e))
    (adds_none table)

module _ (heading texts column : List ℕ) (columns : Option (List ℕ)) (count : Count)
    (of_heading : row_fields heading ≡ column ∷ fields_if columns) where
  by_emptiness : (b : Bool) → are_empty (row_fields texts) ≡ b
      → spread true heading (record { key = texts; count = count })
      ≡ hits_of count (if b then [] else key_text (unwrap_or columns []) texts ∷ [])
  by_emptiness b e =
      (λ i. hits_of count
      (if e i then [] else key_text (joined (after_first (of_heading i))) (joined_fields texts i) ∷ []))
      ∙ ap (λ l. hits_of count (if b then [] else key_text l texts ∷ [])) (joined_if columns)

  pub one_together : (names : List ℕ) (old new : List ℕ → Option Count) → names ≡ unwrap_or columns []
      → are_empty (row_fields texts) ≡ false → Fits count
      → AddsHit (record { key = key_text names texts; count = count }) old new
      → Adds (spread true heading (record { key = texts; count = count })) old new
  one_together names old new named e fits more =
      let h : Hit = record { key = key_text names texts; count = count } in
      subst (λ l. Adds l old new)
      (ap (λ l. hits_of count (key_text l texts ∷ [])) named ∙ sym (by_emptiness false e))
      (adds_one h old new fits more)
