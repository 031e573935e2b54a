-- A row whose fields are counted one after the other.
use Rattle.std.proofs.Common.{◌≡◌, ℕ, List, [], ◌∷◌, ◌++◌, length, false, Option, Some, None, refl, sym, ap, subst, ◌∙◌, append_assoc, append-nil, arith}
use Rattle.std.specs.Prelude.{◌≢◌}
use Rattle.std.proofs.lemmas.List.{map-append}
use Rattle.ether_capture.specs.declared.count.Count.{Count}
use Rattle.ether_capture.specs.KeyCounts.{AddsHit, Hit}
use Rattle.ether_capture.specs.RowFields.{after_first, fields_if, key_if, key_text, keys_in, row_fields}
use Rattle.ether_capture.specs.Waiting.{Adds, hits_of, spread}
use Rattle.ether_capture.proofs.FieldLemmas.{no_keys}
use Rattle.ether_capture.proofs.KeyCountLemmas.{Fits}
use Rattle.ether_capture.proofs.WaitingLemmas.{adds_none, adds_one, adds_then}

empty : (text : List ℕ) → length text ≡ 0 → text ≡ []
empty [] zero = refl
empty (b ∷ bs) zero = absurd (omega (arith, zero))

module _ (heading texts : List ℕ) (count : Count) (first : List ℕ → Option Count) where
  all_hits : List Hit
  all_hits = spread false heading (record { key = texts; count = count })

  -- the packets are counted for some keys, and these are left
  pub record CountsOn (columns fields : Option (List ℕ)) (table : List ℕ → Option Count) : Type 0 where
    pub done : List Hit
    pub added : Adds done first table
    pub parts : done ++ hits_of count (keys_in (fields_if columns) (fields_if fields))
        ≡ spread false heading (record { key = texts; count = count })

  pub begins_row : (column : List ℕ) (columns : Option (List ℕ)) → row_fields heading ≡ column ∷ fields_if columns
      → CountsOn columns (Some texts) first
  begins_row column columns of_heading = record {
    done = [];
    added = adds_none first;
    parts = λ i. hits_of count (keys_in (after_first (sym of_heading i)) (row_fields texts));
  }

  module _ (names left column text : List ℕ) (columns fields : Option (List ℕ)) (old : List ℕ → Option Count)
      (of_names : row_fields names ≡ column ∷ fields_if columns) (of_left : row_fields left ≡ text ∷ fields_if fields)
      (so_far : CountsOn (Some names) (Some left) old) where
    keys_left : hits_of count (keys_in (row_fields names) (row_fields left))
        ≡ hits_of count (key_if column text) ++ hits_of count (keys_in (fields_if columns) (fields_if fields))
    keys_left =
        (λ i. hits_of count (keys_in (of_names i) (of_left i)))
        ∙ map-append (λ k. record { key = k; count = count }) (key_if column text)
        (keys_in (fields_if columns) (fields_if fields))

    -- the next column has no text
    pub passes_column : length text ≡ 0 → CountsOn columns fields old
    passes_column zero = let none = empty text zero in record {
      done = so_far.done;
      added = so_far.added;
      parts =
          sym
          (ap (λ l. so_far.done ++ l)
          (keys_left ∙ ap (λ t. hits_of count (key_if column t)
          ++ hits_of count (keys_in (fields_if columns) (fields_if fields))) none))
          ∙ so_far.parts;
    }

    -- .. or has one, which is counted
    pub counts_column : (new : List ℕ → Option Count) → Fits count → text ≢ []
        → AddsHit (record { key = key_text column text; count = count }) old new
        → CountsOn columns fields new
    counts_column new fits some more =
        let h : Hit = record { key = key_text column text; count = count } in
        record {
          done = so_far.done ++ h ∷ [];
          added = adds_then so_far.done (h ∷ []) first old new so_far.added (adds_one h old new fits more);
          parts =
              append_assoc so_far.done (h ∷ []) (hits_of count (keys_in (fields_if columns) (fields_if fields)))
              ∙ sym
              (ap (λ l. so_far.done ++ l)
              (keys_left
              ∙ ap (λ l. hits_of count l ++ hits_of count (keys_in (fields_if columns) (fields_if fields)))
              (one text some)))
              ∙ so_far.parts;
        }
      where
        one : (t : List ℕ) → t ≢ [] → key_if column t ≡ key_text column t ∷ []
        one [] some = absurd (some refl)
        one (b ∷ bs) some = refl

  ends_row : (columns fields : Option (List ℕ)) (table : List ℕ → Option Count)
      → keys_in (fields_if columns) (fields_if fields) ≡ [] → CountsOn columns fields table
      → Adds (spread false heading (record { key = texts; count = count })) first table
  ends_row columns fields table none so_far =
      subst (λ l. Adds l first table)
      (sym (append-nil so_far.done) ∙ ap (λ k. so_far.done ++ hits_of count k) (sym none) ∙ so_far.parts) so_far.added

  pub ends_names : (columns fields : Option (List ℕ)) (table : List ℕ → Option Count) → columns ≡ None
      → CountsOn columns fields table → Adds (spread false heading (record { key = texts; count = count })) first table
  ends_names columns fields table none =
      ends_row columns fields table (ap (λ c. keys_in (fields_if c) (fields_if fields)) none)

  pub ends_texts : (columns fields : Option (List ℕ)) (table : List ℕ → Option Count) → fields ≡ None
      → CountsOn columns fields table → Adds (spread false heading (record { key = texts; count = count })) first table
  ends_texts columns fields table none =
      ends_row columns fields table (ap (λ f. keys_in (fields_if columns) (fields_if f)) none
      ∙ no_keys (fields_if columns))
