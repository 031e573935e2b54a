use Rattle.ether_output.proofs.OutputBufferLemmas.{Takes-then, Takes-same}
use Rattle.ether_format.specs.Spelling.{date_text}
use Rattle.ether_format.proofs.spelling.write_date.Goals as goal

pub returns : goal.returns
unfolding date_text
returns g c = Takes-then c.write_decimal.ensures (Takes-same c.month_to_second.ensures c.append_array.ensures)
