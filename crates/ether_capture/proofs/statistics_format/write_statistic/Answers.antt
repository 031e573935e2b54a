use Rattle.ether_output.proofs.OutputBufferLemmas.{Takes-then}
use Rattle.ether_capture.proofs.statistics_format.write_statistic.Goals as goal

pub returns-in-Text : goal.returns-in-Text
returns-in-Text g c = rw c.in-Text.is c.write_fields.ensures

pub returns-in-Json : goal.returns-in-Json
returns-in-Json g c =
    rw c.in-Json.is
    (Takes-then c.append.ensures
    (Takes-then c.write_key_members.ensures
    (Takes-then c.append-in-Json.ensures
    (Takes-then c.write_decimal.ensures
    (Takes-then c.append-in-Json-2.ensures (Takes-then c.write_decimal-in-Json.ensures c.append-in-Json-3.ensures))))))
