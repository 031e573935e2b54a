use Rattle.ether_pcap.proofs.CapturesOne.{unit_one, unit_apart, unit_refusal_one}
use Rattle.ether_pcap.proofs.CaptureSome.{some_unit}
use Rattle.ether_pcap.proofs.laws.units_are_one.Goals as goal

pub returns : goal.returns
returns c = record { some = some_unit; one = unit_one; apart = unit_apart; refused = unit_refusal_one }
