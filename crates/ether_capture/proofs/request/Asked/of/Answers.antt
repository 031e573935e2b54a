use Rattle.std.proofs.Common.{rules}
use Rattle.ether_capture.specs.Options.{wrong_by, wrong_count, wrong_edit, wrong_fields, wrong_format, wrong_jobs, wrong_limit, wrong_status_on_fault, wrong_undecided}
use Rattle.ether_capture.proofs.OptionsLemmas.{value_refused}
use Rattle.ether_capture.proofs.request.Asked.of.Goals as goal

pub returns-in_err-edit-clause-err : goal.returns-in_err-edit-clause-err
returns-in_err-edit-clause-err c =
    value_refused _ c.in_err-edit.field-0.0 c.from_residual.result
    (wrong_edit _ c.in_err-edit.ensures.err c.in_err-edit.ensures.usage) (search rules)

pub returns-in_err-count-clause-err : goal.returns-in_err-count-clause-err
returns-in_err-count-clause-err c =
    let is = c.text_of.ensures in
    value_refused _ c.in_err-count.field-0.0 c.from_residual-in_err-count.result
    (wrong_count _ (rw is at c.in_err-count.ensures.err) (rw is at c.in_err-count.ensures.usage)) (search rules)

pub returns-in_err-limit-clause-err : goal.returns-in_err-limit-clause-err
returns-in_err-limit-clause-err c =
    let is = c.text_of-2.ensures in
    value_refused _ c.in_err-limit.field-0.0 c.from_residual-in_err-limit.result
    (wrong_limit _ (rw is at c.in_err-limit.ensures.err) (rw is at c.in_err-limit.ensures.usage)) (search rules)

pub returns-in_err-format-clause-err : goal.returns-in_err-format-clause-err
returns-in_err-format-clause-err c =
    let is = c.text_of-3.ensures in
    value_refused _ c.in_err-format.field-0.0 c.from_residual-in_err-format.result
    (wrong_format _ (rw is at c.in_err-format.ensures.err) (rw is at c.in_err-format.ensures.usage)) (search rules)

pub returns-in_err-fields-clause-err : goal.returns-in_err-fields-clause-err
returns-in_err-fields-clause-err c =
    let is = c.text_of-4.ensures in
    value_refused _ c.in_err-fields.field-0.0 c.from_residual-in_err-fields.result
    (wrong_fields _ (rw is at c.in_err-fields.ensures.err) (rw is at c.in_err-fields.ensures.usage)) (search rules)

pub returns-in_err-undecided-clause-err : goal.returns-in_err-undecided-clause-err
returns-in_err-undecided-clause-err c =
    let is = c.text_of-6.ensures in
    value_refused _ c.in_err-undecided.field-0.0 c.from_residual-in_err-undecided.result
    (wrong_undecided _ (rw is at c.in_err-undecided.ensures.err) (rw is at c.in_err-undecided.ensures.usage))
    (search rules)

pub returns-in_err-status_on_fault-clause-err : goal.returns-in_err-status_on_fault-clause-err
returns-in_err-status_on_fault-clause-err c =
    let is = c.text_of-7.ensures in
    value_refused _ c.in_err-status_on_fault.field-0.0 c.from_residual-in_err-status_on_fault.result
    (wrong_status_on_fault _ (rw is at c.in_err-status_on_fault.ensures.err)
    (rw is at c.in_err-status_on_fault.ensures.usage))
    (search rules)

pub returns-in_err-by-clause-err : goal.returns-in_err-by-clause-err
returns-in_err-by-clause-err c =
    let is = c.text_of-5.ensures in
    value_refused _ c.in_err-by.field-0.0 c.from_residual-in_err-by.result
    (wrong_by _ (rw is at c.in_err-by.ensures.err) (rw is at c.in_err-by.ensures.usage)) (search rules)

pub returns-in_err-jobs-clause-err : goal.returns-in_err-jobs-clause-err
returns-in_err-jobs-clause-err c =
    let is = c.text_of-8.ensures in
    value_refused _ c.in_err-jobs.field-0.0 c.from_residual-in_err-jobs.result
    (wrong_jobs _ (rw is at c.in_err-jobs.ensures.err) (rw is at c.in_err-jobs.ensures.usage)) (search rules)
