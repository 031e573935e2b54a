use Rattle.ether_pcap.proofs.CaptureLengths.{unit_within, unit_some, required_above}
use Rattle.ether_pcap.proofs.laws.unit_lengths.Goals as goal

pub returns : goal.returns
returns c = record { within = unit_within; some = unit_some; required = required_above }
