use Rattle.std.proofs.Common.{rules, map, string_bytes}
use Rattle.clap.specs.Words.{app_of}
use Rattle.ether_make.specs.Options.{job_view}
use Rattle.ether_make.proofs.OptionsLemmas.{finds, job_named, kind_named, kind_refused, memory_refused, nothing_asked, refuses}
use Rattle.ether_make.proofs.options.request_of_words.Goals as goal

pub returns-in_err-command-clause-err : goal.returns-in_err-command-clause-err
returns-in_err-command-clause-err c = memory_refused (map string_bytes c.args.words.now) c.from_residual.result
    (search rules)

pub returns-in_err-job_of-in-Ok-clause-err : goal.returns-in_err-job_of-in-Ok-clause-err
returns-in_err-job_of-in-Ok-clause-err c =
    let words = map string_bytes c.args.words.now in
    let found = finds (app_of c.in_ok-command.command) words c.in-Ok.matches c.in_ok-command.ensures (search rules)
    (search rules) in
    nothing_asked words _ found.0 found.1 c.in_err-job_of-in-Ok.field-0.0 c.from_residual-in_err-job_of-in-Ok.result
    c.in_err-job_of-in-Ok.ensures.err (search rules)

pub returns-in_ok-job_of-in-Ok-clause-ok : goal.returns-in_ok-job_of-in-Ok-clause-ok
returns-in_ok-job_of-in-Ok-clause-ok c =
    let words = map string_bytes c.args.words.now in
    let found = finds (app_of c.in_ok-command.command) words c.in-Ok.matches c.in_ok-command.ensures (search rules)
    (search rules) in
    job_named words _ found.0 found.1 (job_view c.in_ok-job_of-in-Ok.field-0) c.in_ok-job_of-in-Ok.ensures.ok

pub returns-in-Err-clause-ok : goal.returns-in-Err-clause-ok
returns-in-Err-clause-ok c =
    let words = map string_bytes c.args.words.now in
    let fails = refuses (app_of c.in_ok-command.command) words c.in-Err.error c.in_ok-command.ensures (search rules) in
    kind_named words c.kind.result c.in-Err.error fails c.kind.ensures c.request_of_kind.result
    c.request_of_kind.ensures.ok

pub returns-in-Err-clause-err : goal.returns-in-Err-clause-err
returns-in-Err-clause-err c =
    let words = map string_bytes c.args.words.now in
    let fails = refuses (app_of c.in_ok-command.command) words c.in-Err.error c.in_ok-command.ensures (search rules) in
    kind_refused words c.kind.result c.in-Err.error fails c.kind.ensures c.request_of_kind.result
    c.request_of_kind.ensures.err
