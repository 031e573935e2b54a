use Rattle.ether_output.proofs.OutputBufferLemmas.{Takes-then}
use Rattle.ether_capture.proofs.statistics_format.write_fields.Goals as goal

pub returns : goal.returns
returns g c =
    Takes-then c.append.ensures
    (Takes-then c.append-2.ensures
    (Takes-then c.write_decimal.ensures
    (Takes-then c.append-3.ensures (Takes-then c.write_decimal-2.ensures c.append-4.ensures))))
