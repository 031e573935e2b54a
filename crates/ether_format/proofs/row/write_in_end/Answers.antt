use Rattle.std.proofs.Common.{◌≡◌, ap, ◌∙◌, rules}
use Rattle.ether_output.proofs.OutputBufferLemmas.{Takes-none, Takes-same}
use Rattle.ether_format.specs.Told.{end_section, end_values}
use Rattle.ether_format.specs.Values.{column_on, if_any, value_at}
use Rattle.ether_format.proofs.RowLemmas.{end_elsewhere, end_here}
use Rattle.ether_format.proofs.row.write_in_end.Goals as goal
use Rattle.std.specs.Prelude.{true}

pub returns-then-eq : goal.returns-then-eq
returns-then-eq g c =
    let same : c.args.column.section ≡ end_section c.args.end.now = search rules in
    let value = c.end_value.ensures ∙ ap (value_at (end_values c.args.end.now)) c.from.ensures in
    Takes-same
    (ap (column_on true) (ap if_any value ∙ end_here c.args.column.section c.args.column.index c.args.end.now same))
    c.write_only.ensures

pub returns-else-eq : goal.returns-else-eq
returns-else-eq g c =
    let other : c.args.column.section ≡ end_section c.args.end.now → ⊥ = search rules in
    Takes-same (ap (column_on true) (end_elsewhere c.args.column.section c.args.column.index c.args.end.now other))
    (Takes-none g.W.Sink.contents g.W.Sink.can_fail c.args.out.now)
