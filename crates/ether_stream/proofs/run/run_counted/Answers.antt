use Rattle.std.proofs.Common.{rules}
use Rattle.ether_output.proofs.KnownBytesLemmas.{append_known_nil}
use Rattle.ether_text.proofs.RunLemmas.{run_fails}
use Rattle.ether_stream.proofs.run.run_counted.Goals as goal

pub returns-clause-run : goal.returns-clause-run
returns-clause-run g c = search (rules, append_known_nil)

pub returns-clause-failed : goal.returns-clause-failed
returns-clause-failed g c = search (rules, run_fails)
