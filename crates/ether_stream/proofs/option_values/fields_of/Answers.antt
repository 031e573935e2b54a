use Rattle.std.proofs.Common.{List, ℕ, Bor, Option, Some, None, subst}
use Rattle.std.specs.Option.{option_map}
use Rattle.ether_format.specs.Columns.{AreColumns, ColumnValue, columns_view}
use Rattle.ether_format.specs.declared.columns.Columns.{Columns}
use Rattle.ether_stream.specs.OptionValues.{AreFields, IsIfAny}
use Rattle.ether_stream.proofs.option_values.fields_of.Goals as goal

no_fields : (text : List ℕ) → ((columns : List ColumnValue) → AreColumns text columns → ⊥) → (fields : Option Columns)
    → IsIfAny AreFields (Some text) fields → ⊥
no_fields text none None is = is
no_fields text none (Some columns) is = none (columns_view columns) is

pub returns-in-Some-unknown_name-clause-err : goal.returns-in-Some-unknown_name-clause-err
returns-in-Some-unknown_name-clause-err c fields is =
    no_fields c.in-Some.text.now (c.in_default-of_names.ensures.none) fields
    (subst (λ (text : Option (Bor (List ℕ))). IsIfAny AreFields (option_map (λ s. s.now) text) fields) c.in-Some.is is)

pub returns-in-None-clause-err : goal.returns-in-None-clause-err
returns-in-None-clause-err c fields is =
    no_fields c.in-Some.text.now (c.in_default-of_names.ensures.none) fields
    (subst (λ (text : Option (Bor (List ℕ))). IsIfAny AreFields (option_map (λ s. s.now) text) fields) c.in-Some.is is)
