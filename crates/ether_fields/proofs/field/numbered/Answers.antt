use Rattle.std.proofs.Common.{◌≡◌, ℕ, List, [], ◌∷◌, Bool, true, false, Option, Some, None, cond, refl, ap, ◌∙◌, map, find, rules, tests, nat_eq, Bor}
use Rattle.std.specs.Option.{option_map}
use Rattle.std.proofs.lemmas.Iterator.Search.{find_from_yields_List}
use Rattle.std.proofs.lemmas.Iterator.{YieldsList-from_slice}
use Rattle.ether_fields.specs.Fields.{field_view, row_numbered}
use Rattle.ether_fields.specs.declared.field.Field.{Field}
use Rattle.ether_fields.proofs.field.numbered.Goals as goal

one_by_one : (number : ℕ) (f : Field) (fs : List Field) (b : Bool)
    → option_map field_view (find (λ g. nat_eq g.number number) fs) ≡ row_numbered number (map field_view fs)
    → option_map field_view (cond b (Some f) (find (λ g. nat_eq g.number number) fs))
    ≡ cond b (Some (field_view f)) (row_numbered number (map field_view fs))
one_by_one number f fs true later = refl
one_by_one number f fs false later = later

found_row : (number : ℕ) (fs : List Field)
    → option_map field_view (find (λ g. nat_eq g.number number) fs) ≡ row_numbered number (map field_view fs)
found_row number [] = refl
found_row number (f ∷ fs) = one_by_one number f fs (nat_eq f.number number) (found_row number fs)

seen : (found : Option (Bor Field))
    → option_map (λ f. field_view f.now) found ≡ option_map field_view (option_map (λ f. f.now) found)
seen None = refl
seen (Some f) = refl

pub returns-clause-row : goal.returns-clause-row
returns-clause-row c =
    let fields = c.args.fields.now in
    let first : option_map (λ f. f.now) c.find.result ≡ find (λ (g : Field). nat_eq g.number c.args.number) fields =
    find_from_yields_List (λ (g : Field). nat_eq g.number c.args.number) _ _ c.find.result c.find.ensures.ran
    (YieldsList-from_slice fields cc) (λ x b q k. search (rules, tests)) in
    seen c.find.result ∙ ap (λ (o : Option Field). option_map field_view o) first ∙ found_row c.args.number fields
