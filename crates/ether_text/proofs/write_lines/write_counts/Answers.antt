use Rattle.ether_text.specs.Lines.{feed_text}
use Rattle.ether_output.proofs.OutputBufferLemmas.{Takes-then}
use Rattle.ether_text.proofs.write_lines.write_counts.Goals as goal

pub returns : goal.returns
unfolding feed_text
returns g c = Takes-then (Takes-then c.write_number.ensures c.write_number-2.ensures) c.append.ensures
