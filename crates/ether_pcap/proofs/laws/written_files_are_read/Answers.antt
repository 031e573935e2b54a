use Rattle.ether_pcap.proofs.WrittenFiles.{written_files_are_read}
use Rattle.ether_pcap.proofs.laws.written_files_are_read.Goals as goal

pub returns : goal.returns
returns c = written_files_are_read
