use Rattle.std.proofs.Common.{◌++◌, List, ℕ, [], ap, sym, ◌∙◌, codes, length, map, arith, ltb-false, ◌≤◌}
use Rattle.std.proofs.lemmas.List.{get_or_past, length-map}
use Rattle.ether_fields.specs.Rows.{Row}
use Rattle.ether_fields.specs.Fields.{field_view, section_name, section_rows}
use Rattle.ether_output.proofs.OutputBufferLemmas.{Takes-then, Takes-same}
use Rattle.ether_fields.specs.declared.field.Field.{Field}
use Rattle.ether_format.specs.Columns.{name_at}
use Rattle.ether_format.proofs.Names.{field_name}
use Rattle.ether_format.proofs.column.Column.write_name.Goals as goal

pub returns-in_default : goal.returns-in_default
returns-in_default g c =
    let rows = section_rows c.args.self.section in
    let names = map (λ (r : Row). r.name) rows in
    let len = ap length (sym c.fields.ensures.rows) ∙ length-map c.fields.result.now field_view in
    let all = length-map rows (λ (r : Row). r.name) in
    let out = ltb-false _ _ (sym c.in_default.ensures.lookup.0) in
    let from = c.from.ensures in
    let past : length names ≤ c.args.self.index = omega (arith, len, all, out, from) in
    let empty = get_or_past names c.args.self.index [] past in
    Takes-same (ap (λ (l : List ℕ). section_name c.args.self.section ++ (codes "." ++ l)) (sym empty))
    (Takes-then (Takes-same (c.as_bytes.ensures.value ∙ c.name.ensures) c.append.ensures) c.append-2.ensures)

pub returns-in-Some : goal.returns-in-Some
returns-in-Some g c =
    let rows = section_rows c.args.self.section in
    let found = c.in-Some.ensures.lookup in
    let name = c.as_bytes-in-Some.ensures.value ∙ ap (λ (f : Field). f.name.now) found.1
    ∙ field_name c.fields.result.now rows c.from.result c.in-Some.field.now c.fields.ensures.rows found.3.0
    ∙ ap (λ (n : ℕ). name_at rows n) c.from.ensures in
    Takes-same (ap (λ (l : List ℕ). section_name c.args.self.section ++ (codes "." ++ l)) name)
    (Takes-then (Takes-same (c.as_bytes.ensures.value ∙ c.name.ensures) c.append.ensures)
    (Takes-then c.append-2.ensures c.append-in-Some.ensures))
