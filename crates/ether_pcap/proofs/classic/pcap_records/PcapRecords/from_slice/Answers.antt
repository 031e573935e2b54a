use Rattle.ether_pcap.proofs.Records.{rest_after}
use Rattle.ether_pcap.proofs.classic.pcap_records.PcapRecords.from_slice.Goals as goal

pub returns-clause-rest : goal.returns-clause-rest
returns-clause-rest c = rest_after c.args.slice.now 24
