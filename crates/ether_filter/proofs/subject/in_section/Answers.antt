use Rattle.ether_fields.specs.Fields.{section_rows}
use Rattle.ether_filter.proofs.SubjectLemmas.{row_of_section}
use Rattle.ether_filter.proofs.subject.in_section.Goals as goal

pub returns : goal.returns
returns c =
    row_of_section c.args.name.now c.args.section c.fields.result.now (section_rows c.args.section) c.named.result
    c.fields.ensures.rows c.fields.ensures.columns c.named.ensures
