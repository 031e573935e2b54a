use Rattle.serde_json.specs.View.{view}
use Rattle.ether_make.proofs.LineLemmas.{not-json}
use Rattle.ether_make.proofs.repeated.unique_value.Goals as goal

pub returns-in-Err-clause-fault : goal.returns-in-Err-clause-fault
returns-in-Err-clause-fault c = not-json c.args.text.now c.in-Err.fault c.in-Err.ensures.fault

pub has_unique_members-requires : goal.has_unique_members-requires
has_unique_members-requires c = c.in-Ok.ensures.value.utf8

pub returns-in-Ok-true-clause-unique : goal.returns-in-Ok-true-clause-unique
returns-in-Ok-true-clause-unique c = rw c.in-Ok-true.field-0-test at c.in-Ok-true.ensures

pub returns-in-Ok-false-clause-fault : goal.returns-in-Ok-false-clause-fault
returns-in-Ok-false-clause-fault c =
    (view c.in-Ok.value, c.in-Ok.ensures.value, rw c.in-Ok-false.field-0-test at c.in-Ok-false.ensures)
