use Rattle.std.proofs.Common.{rules}
use Rattle.ether_stream.proofs.RunLemmas.{has_run}
use Rattle.ether_stream.proofs.run.run.Goals as goal

pub returns-clause-run : goal.returns-clause-run
returns-clause-run g c = search (rules, has_run)
