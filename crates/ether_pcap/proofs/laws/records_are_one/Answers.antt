use Rattle.ether_pcap.proofs.Records.{record_one, record_apart, refusal_one}
use Rattle.ether_pcap.proofs.laws.records_are_one.Goals as goal

pub returns : goal.returns
returns c = record { one = record_one; apart = record_apart; refused = refusal_one }
