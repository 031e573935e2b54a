use Rattle.ether_output.proofs.OutputBufferLemmas.{Takes-then, Takes-same}
use Rattle.ether_format.specs.Spelling.{dated_text}
use Rattle.ether_format.proofs.spelling.write_dated.Goals as goal

pub returns : goal.returns
unfolding dated_text
returns g c = Takes-then c.write_date.ensures (Takes-same c.fraction.ensures c.append_array.ensures)
