use Rattle.std.proofs.Common.{rules}
use Rattle.ether_capture.specs.Options.{no_memory, request_view}
use Rattle.ether_capture.specs.Program.{done, refused}
use Rattle.ether_capture.specs.declared.request.RequestError.TheVariants as reasons
use Rattle.ether_capture.proofs.program.carry_out_words.Goals as goal

pub returns-in-Err-Usage-clause-obeyed : goal.returns-in-Err-Usage-clause-obeyed
returns-in-Err-Usage-clause-obeyed g c = refused _ (reasons.Usage _) _ (search rules)

pub returns-in-Err-Memory-clause-obeyed : goal.returns-in-Err-Memory-clause-obeyed
returns-in-Err-Memory-clause-obeyed g c = refused _ reasons.Memory _ no_memory

pub returns-in-Err-Filter-clause-obeyed : goal.returns-in-Err-Filter-clause-obeyed
returns-in-Err-Filter-clause-obeyed g c = refused _ (reasons.Filter _) _ (search rules)

pub returns-in-Ok-clause-obeyed : goal.returns-in-Ok-clause-obeyed
returns-in-Ok-clause-obeyed g c = done _ (request_view c.in-Ok.request) _ _ _ c.in-Ok.ensures.ok
    c.carry_out_request.ensures.done
