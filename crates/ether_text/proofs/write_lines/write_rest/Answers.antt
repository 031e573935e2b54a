use Rattle.ether_text.specs.ViewLines.{rest_view_text}
use Rattle.ether_output.proofs.OutputBufferLemmas.{Takes-then}
use Rattle.ether_text.proofs.write_lines.write_rest.Goals as goal

pub returns : goal.returns
unfolding rest_view_text
returns g c =
    Takes-then (Takes-then c.append.ensures (Takes-then c.write_decimal.ensures (Takes-then c.append-2.ensures
    (Takes-then c.write_decimal-2.ensures c.write_kind.ensures)))) c.append-3.ensures
