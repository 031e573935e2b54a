use Rattle.std.proofs.Common.{ap, sym, map}
use Rattle.ether_fields.specs.Fields.{column_name, section_rows}
use Rattle.ether_fields.specs.declared.section.Section.{Section}
use Rattle.ether_fields.proofs.section.Section.fields.Goals as goal

pub returns-in-Sll2-clause-columns : goal.returns-in-Sll2-clause-columns
returns-in-Sll2-clause-columns c = ap (λ (s : Section). map (column_name s) (section_rows s)) (sym c.in-Sll2.is)

pub returns-in-Frame-clause-columns : goal.returns-in-Frame-clause-columns
returns-in-Frame-clause-columns c = ap (λ (s : Section). map (column_name s) (section_rows s)) (sym c.in-Frame.is)
