use Rattle.ether_pcap.proofs.CaptureLocality.{unit_local, unit_alone, refusal_local}
use Rattle.ether_pcap.proofs.laws.units_are_local.Goals as goal

pub returns : goal.returns
returns c = record { unit = unit_local; alone = unit_alone; refused = refusal_local }
