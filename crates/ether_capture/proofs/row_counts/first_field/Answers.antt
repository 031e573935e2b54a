use Rattle.ether_capture.proofs.FieldLemmas.{next_field, one_field}
use Rattle.ether_capture.proofs.row_counts.first_field.Goals as goal

pub returns-in-Some : goal.returns-in-Some
returns-in-Some c = next_field c.args.text.now c.in-Some.field.now c.in-Some.after.now c.in-Some.ensures.some

pub returns-in-None : goal.returns-in-None
returns-in-None c = one_field c.args.text.now c.in-None.ensures.none
