use Rattle.std.proofs.Common.{rules}
use Rattle.ether_base.proofs.SubLists.{rest_of_part, length-part_min}
use Rattle.ether_stream.proofs.RunLemmas.{units_left}
use Rattle.ether_stream.proofs.input_buffer.InputBuffer.take_units.Goals as goal

pub returns-clause-ok : goal.returns-clause-ok
returns-clause-ok g c = search (rules, length-part_min, units_left, rest_of_part)
