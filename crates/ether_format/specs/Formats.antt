-- Which format a text names.
use Rattle.std.specs.Prelude.{◌≡◌, ℕ, List, codes}
use Rattle.ether_format.specs.declared.format.Format.{Format}
use Rattle.ether_format.specs.declared.format.Format.TheVariants.{Json, JsonBytes, Brief, Fields, Csv}
use Rattle.ether_format.specs.Columns.{AreColumns, columns_view}

abbrev pub NamesFormat : (text : List ℕ) → Format → Type 0
NamesFormat text Json = text ≡ codes "json"
NamesFormat text JsonBytes = ⊥
NamesFormat text Brief = text ≡ codes "brief"
NamesFormat text (Fields columns) = AreColumns text (columns_view columns)
NamesFormat text (Csv columns) = ⊥
