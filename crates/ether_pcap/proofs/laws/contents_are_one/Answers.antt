use Rattle.ether_pcap.proofs.Records.{some_contents, one_contents}
use Rattle.ether_pcap.proofs.laws.contents_are_one.Goals as goal

pub returns : goal.returns
returns c = record { some = some_contents; one = one_contents }
