use Rattle.ether_pcap.proofs.FileHeaders.{one_header, apart, refused_once}
use Rattle.ether_pcap.proofs.laws.file_headers_are_one.Goals as goal

pub returns : goal.returns
returns c = record { one = one_header; apart = apart; refused = refused_once }
