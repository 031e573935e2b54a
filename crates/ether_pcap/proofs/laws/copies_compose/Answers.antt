use Rattle.ether_pcap.proofs.CopiesCompose.{composed_again, composed_tests}
use Rattle.ether_pcap.proofs.laws.copies_compose.Goals as goal

pub returns : goal.returns
returns c = record { selected = composed_tests; again = composed_again }
