use Rattle.ether_pcap.proofs.WrittenSections.{written_sections_are_read}
use Rattle.ether_pcap.proofs.laws.written_sections_are_read.Goals as goal

pub returns : goal.returns
returns c = written_sections_are_read
