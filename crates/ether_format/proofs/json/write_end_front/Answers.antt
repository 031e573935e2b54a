use Rattle.std.proofs.Common.{refl, ap, sym, ◌∙◌, ◌++◌}
use Rattle.std.specs.Prelude.{codes}
use Rattle.ether_output.proofs.OutputBufferLemmas.{Takes-then, Takes-same}
use Rattle.ether_fields.specs.Rows.{fault_rows, rest_rows}
use Rattle.ether_format.specs.Lines.{json_end_front}
use Rattle.ether_format.specs.Members.{Nothing, rest_values}
use Rattle.ether_format.specs.Told.{fault_values, kind_value, kind_word}
use Rattle.ether_format.proofs.JsonLemmas.{open_object}
use Rattle.ether_format.proofs.json.write_end_front.Goals as goal

pub returns-in-Rest : goal.returns-in-Rest
returns-in-Rest g c =
    Takes-same
    (ap (λ l. codes "],\"rest\":" ++ l)
    (open_object rest_rows
    (rest_values c.in-Rest.start c.in-Rest.end (kind_word c.in-Rest.kind) (kind_value c.in-Rest.kind)) refl)
    ∙ ap json_end_front (sym c.in-Rest.is))
    (Takes-then c.append.ensures c.write_rest.ensures)

pub returns-in-Skipped : goal.returns-in-Skipped
returns-in-Skipped g c =
    Takes-same
    (ap (λ l. codes "],\"rest\":" ++ l)
    (open_object rest_rows (rest_values 0 c.in-Skipped.len (codes "skipped") Nothing) refl)
    ∙ ap json_end_front (sym c.in-Skipped.is))
    (Takes-then c.append-in-Skipped.ensures c.write_skipped.ensures)

pub returns-in-Fault : goal.returns-in-Fault
returns-in-Fault g c =
    Takes-same
    (ap (λ l. codes "],\"fault\":" ++ l)
    (open_object fault_rows (fault_values c.in-Fault.start c.in-Fault.closed c.in-Fault.cause) refl)
    ∙ ap json_end_front (sym c.in-Fault.is))
    (Takes-then c.append-in-Fault.ensures c.write_fault.ensures)
