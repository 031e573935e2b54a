use Rattle.ether_output.proofs.OutputBufferLemmas.{Takes-same, Takes-then}
use Rattle.ether_format.proofs.brief.write_other_saps.Goals as goal

pub returns : goal.returns
returns g c =
    let dsap = Takes-same c.upper_pair.ensures c.append_array.ensures in
    let ssap = Takes-same c.upper_pair-2.ensures c.append_array-2.ensures in
    Takes-then c.append.ensures (Takes-then dsap (Takes-then c.append-2.ensures ssap))
