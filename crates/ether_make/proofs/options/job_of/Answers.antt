use Rattle.std.proofs.Common.{rules}
use Rattle.ether_make.specs.Options.{wrong_count, wrong_rate, wrong_seed}
use Rattle.ether_make.proofs.OptionsLemmas.{value_refused}
use Rattle.ether_make.proofs.options.job_of.Goals as goal

pub returns-in_err-count-clause-err : goal.returns-in_err-count-clause-err
returns-in_err-count-clause-err c =
    let is = c.text_of.ensures in
    value_refused _ c.in_err-count.field-0.0 c.from_residual.result
    (wrong_count _ (record {
      no_number = rw is at c.in_err-count.ensures.err;
      is = rw is at c.in_err-count.ensures.usage;
    })) (search rules)

pub returns-in_err-seed-clause-err : goal.returns-in_err-seed-clause-err
returns-in_err-seed-clause-err c =
    let is = c.text_of-2.ensures in
    value_refused _ c.in_err-seed.field-0.0 c.from_residual-in_err-seed.result
    (wrong_seed _ (record {
      no_number = rw is at c.in_err-seed.ensures.err;
      is = rw is at c.in_err-seed.ensures.usage;
    })) (search rules)

pub returns-in_err-rate-clause-err : goal.returns-in_err-rate-clause-err
returns-in_err-rate-clause-err c =
    let is = c.text_of-3.ensures in
    value_refused _ c.in_err-rate.field-0.0 c.from_residual-in_err-rate.result
    (wrong_rate _ (record {
      no_number = rw is at c.in_err-rate.ensures.err;
      is = rw is at c.in_err-rate.ensures.usage;
    })) (search rules)
