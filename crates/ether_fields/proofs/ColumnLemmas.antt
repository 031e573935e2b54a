-- What two lists say of a field.
use Rattle.std.proofs.Common.{◌≡◌, ℕ, zero, suc, ◌<◌, List, [], ◌∷◌, ap, sym, ◌∙◌, arith, drop, length, map}
use Rattle.std.specs.Prelude.{slice_index_or}
use Rattle.std.specs.List.{IsAmong}
use Rattle.ether_fields.specs.Fields.{field_view}
use Rattle.ether_fields.specs.Rows.{Row}
use Rattle.ether_fields.specs.declared.field.Field.{Field}

pub column_at : (fs : List Field) (column : Row → List ℕ) (f : Field)
    → map (λ g. g.column.now) fs ≡ map column (map field_view fs) → IsAmong fs f → f.column.now ≡ column (field_view f)
column_at fs column f same (i, (lt, is)) = here fs i lt same is
  where
    here : (fs : List Field) (i : ℕ) → i < length fs → map (λ g. g.column.now) fs ≡ map column (map field_view fs)
        → f ≡ slice_index_or fs i f → f.column.now ≡ column (field_view f)
    here [] i lt same is = absurd (omega (arith, lt))
    here (g ∷ gs) zero lt same is =
        ap (λ (h : Field). h.column.now) is ∙ ap (λ (l : List (List ℕ)). slice_index_or l 0 []) same
        ∙ ap (λ (h : Field). column (field_view h)) (sym is)
    here (g ∷ gs) (suc i) lt same is = here gs i (omega (arith, lt)) (ap (drop 1) same) is
