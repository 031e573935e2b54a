use Rattle.ether_pcap.proofs.Sections.{section_one, section_apart, section_refused}
use Rattle.ether_pcap.proofs.laws.sections_are_one.Goals as goal

pub returns : goal.returns
returns c = record { one = section_one; apart = section_apart; refused = section_refused }
