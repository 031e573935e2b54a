use Rattle.ether_text.proofs.tool.CommandLemmas.{names_no_number}
use Rattle.ether_text.proofs.tool.command.limit_of.Goals as goal

pub returns-in-Err-clause-err : goal.returns-in-Err-clause-err
unfolding lib.Utf8.encode
returns-in-Err-clause-err c = names_no_number c.args.digits.now c.if-starts_with.ensures.cases c.in-Err.ensures.value.0
