-- A field that is found by its name is the row that is found.
use Rattle.std.proofs.Common.{◌≡◌, ℕ, List, [], ◌∷◌, Bool, true, false, Option, Some, None, cond, refl, ap, sym, ◌∙◌, drop, map, Bor}
use Rattle.std.specs.Prelude.{nat_eq}
use Rattle.std.specs.Option.{option_map}
use Rattle.std.specs.Cmp.Lexicographic.{pointwise}
use Rattle.ether_fields.specs.Rows.{Row}
use Rattle.ether_fields.specs.Fields.{column_name, field_view}
use Rattle.ether_fields.specs.declared.field.Field.{Field}
use Rattle.ether_fields.specs.declared.section.Section.{Section}
use Rattle.ether_filter.specs.Subjects.{row_in, field_found}

abbrev first_of : {A : Type 0} → A → List A → A
first_of d [] = d
first_of d (x ∷ xs) = x

by_name : (f : Field) (a b : Bool) (fields : Option Field) (rows : Option Row) → a ≡ b
    → option_map field_view fields ≡ rows
    → option_map field_view (cond a (Some f) fields) ≡ cond b (Some (field_view f)) rows
by_name f true true fields rows same later = refl
by_name f false false fields rows same later = later
by_name f true false fields rows same later = absurd cc
by_name f false true fields rows same later = absurd cc

-- among fields whose columns are the names of their rows
pub row_of_field : (name : List ℕ) (s : Section) (fs : List Field)
    → map (λ f. f.column.now) fs ≡ map (column_name s) (map field_view fs)
    → option_map field_view (field_found name fs) ≡ row_in name s (map field_view fs)
row_of_field name s [] same = refl
row_of_field name s (f ∷ fs) same =
    let here : f.column.now ≡ column_name s (field_view f) = ap (first_of []) same in
    by_name f (pointwise nat_eq f.column.now name) (pointwise nat_eq (column_name s (field_view f)) name)
    (field_found name fs) (row_in name s (map field_view fs))
    (ap (λ (l : List ℕ). pointwise nat_eq l name) here) (row_of_field name s fs (ap (drop 1) same))

seen : (found : Option (Bor Field))
    → option_map (λ f. field_view f.now) found ≡ option_map field_view (option_map (λ f. f.now) found)
seen None = refl
seen (Some f) = refl

pub row_of_section : (name : List ℕ) (s : Section) (fs : List Field) (rows : List Row) (found : Option (Bor Field))
    → map field_view fs ≡ rows → map (λ f. f.column.now) fs ≡ map (column_name s) rows
    → option_map (λ f. f.now) found ≡ field_found name fs
    → option_map (λ f. field_view f.now) found ≡ row_in name s rows
row_of_section name s fs rows found are columns is =
    seen found ∙ ap (λ (o : Option Field). option_map field_view o) is
    ∙ row_of_field name s fs (columns ∙ ap (λ (l : List Row). map (column_name s) l) (sym are))
    ∙ ap (row_in name s) are
