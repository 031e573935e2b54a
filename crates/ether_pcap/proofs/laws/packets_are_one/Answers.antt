use Rattle.ether_pcap.proofs.PacketsOne.{packets_one}
use Rattle.ether_pcap.proofs.CaptureSome.{some_packets}
use Rattle.ether_pcap.proofs.laws.packets_are_one.Goals as goal

pub returns : goal.returns
returns c = record { some = some_packets; one = packets_one }
