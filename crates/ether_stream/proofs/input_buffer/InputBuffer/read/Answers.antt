use Rattle.std.proofs.Common.{rules}
use Rattle.ether_base.proofs.SubLists.{length-part}
use Rattle.ether_stream.proofs.InputBufferLemmas.{grown}
use Rattle.ether_stream.proofs.input_buffer.InputBuffer.read.Goals as goal

pub returns-clause-ok : goal.returns-clause-ok
returns-clause-ok g c = search (rules, length-part, grown)
