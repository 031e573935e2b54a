-- The names of a text, one after the other.
use Rattle.std.proofs.Common.{◌≡◌, ◌<◌, ℕ, List, [], ◌∷◌, Option, Some, None, true, false, inl, inr, refl, subst, sym, length, ◌∙◌, arith}
use Rattle.std.specs.Prelude.{◌==◌, ◌≢◌, IfNone, IfSome}
use Rattle.std.specs.Option.{is_some}
use Rattle.std.specs.List.{after_first, before_first, position_or_len, slice_split}
use Rattle.std.proofs.lemmas.List.Sums.{fails_before_first}
use Rattle.std.proofs.lemmas.List.Splits.{slice_split_first, slice_split_none}
use Rattle.ether_format.specs.Columns.{ColumnValue, IsColumn, IsUnknownIn, NamesColumn, column_name, column_view}
use Rattle.ether_format.specs.declared.column.Column.{Column}

abbrev names_of : List ℕ → List (List ℕ)
names_of text = slice_split (λ b. b == 44) text

-- a name is that of a column, or not, as its bytes are read
module _ (bytes name : List ℕ) (column : Option Column) (is : bytes ≡ name) where
  pub named : IfSome column (λ it. IsColumn (column_view it) × (column_name (column_view it) ≡ bytes))
      → is_some column ≡ true
      → NamesColumn name
  named some found = by column some found
    where
      by : (c : Option Column) → IfSome c (λ it. IsColumn (column_view it) × (column_name (column_view it) ≡ bytes))
          → is_some c ≡ true
          → NamesColumn name
      by (Some it) is_one found = (column_view it, is_one.0, is_one.1 ∙ is)
      by None is_one found = absurd cc

  pub not_named : IfNone column ((it : ColumnValue) → IsColumn it → column_name it ≢ bytes) → is_some column ≡ false
      → ¬ (NamesColumn name)
  not_named none found = by column none found
    where
      by : (c : Option Column) → IfNone c ((it : ColumnValue) → IsColumn it → column_name it ≢ bytes)
          → is_some c ≡ false
          → ¬ (NamesColumn name)
      by None no_column found names = no_column names.0 names.1 (names.2 ∙ sym is)
      by (Some it) no_column found names = absurd cc

module _ (text : List ℕ) where
  module _ (name after : List ℕ) (at : position_or_len (λ b. b == 44) text < length text)
      (is_name : name ≡ before_first (λ b. b == 44) text) (is_after : after ≡ after_first (λ b. b == 44) text) where
    names : names_of text ≡ name ∷ names_of after
    names = subst (λ n. names_of text ≡ n ∷ names_of after) (sym is_name)
        (subst (λ a. names_of text ≡ before_first (λ b. b == 44) text ∷ names_of a) (sym is_after)
        (slice_split_first (λ b. b == 44) text 0 at))

    pub first_unknown : ¬ (NamesColumn name) → IsUnknownIn (names_of text) (Some name)
    first_unknown none = subst (λ names. IsUnknownIn names (Some name)) (sym names) (inl (none, refl))

    pub later_unknown : (unknown : Option (List ℕ)) → NamesColumn name → IsUnknownIn (names_of after) unknown
        → IsUnknownIn (names_of text) unknown
    later_unknown unknown is later = subst (λ names. IsUnknownIn names unknown) (sym names) (inr (is, later))

  module _ (at : position_or_len (λ b. b == 44) text ≡ length text) where
    alone : names_of text ≡ text ∷ []
    alone = slice_split_none (λ b. b == 44) text
        (λ k d low. fails_before_first (λ b. b == 44) text k d (omega (arith, low)))

    pub last_unknown : ¬ (NamesColumn text) → IsUnknownIn (names_of text) (Some text)
    last_unknown none = subst (λ names. IsUnknownIn names (Some text)) (sym alone) (inl (none, refl))

    pub none_unknown : NamesColumn text → IsUnknownIn (names_of text) None
    none_unknown is = subst (λ names. IsUnknownIn names None) (sym alone) (inr (is, refl))
