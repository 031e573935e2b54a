use Rattle.std.proofs.Common.{◌≡◌, ◌++◌, ap, sym, ◌∙◌, rules}
use Rattle.ether_fields.specs.Fields.{section_name}
use Rattle.ether_fields.specs.declared.section.Section.{Section}
use Rattle.ether_format.specs.Found.{found_told}
use Rattle.ether_format.specs.FoundHeaders.{found_values}
use Rattle.ether_format.specs.Told.{place_values, told_section}
use Rattle.ether_format.specs.Values.{if_any, value_at}
use Rattle.ether_format.proofs.ColumnLemmas.{found_own, found_told_section, in_own}
use Rattle.ether_format.proofs.column.Column.in_found.Goals as goal

pub returns-then-eq : goal.returns-then-eq
returns-then-eq c =
    let f = c.args.found.now in
    let same : c.args.self.section ≡ f.section = search rules in
    let to : c.args.self.section ≡ told_section (found_told f) =
    same ∙ f.own ∙ sym (found_told_section f.place f.header) in
    let values =
    ap (λ (s : Section). place_values (section_name s) f.place ++ found_values f.header) f.own
    ∙ sym (found_own f.place f.header) in
    ap if_any (c.value.ensures ∙ (λ i. value_at (values i) (c.from-index.ensures i)))
    ∙ in_own c.args.self.section c.args.self.index (found_told f) to
