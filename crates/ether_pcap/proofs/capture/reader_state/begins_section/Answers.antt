use Rattle.std.proofs.Common.{rules}
use Rattle.ether_pcap.proofs.Captures.{section_len}
use Rattle.ether_pcap.proofs.capture.reader_state.begins_section.Goals as goal

pub returns-else-bytes-ge4 : goal.returns-else-bytes-ge4
returns-else-bytes-ge4 c = search (rules, section_len)
