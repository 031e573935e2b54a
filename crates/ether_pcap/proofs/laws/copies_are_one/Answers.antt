use Rattle.ether_pcap.proofs.Copies.{some_copy}
use Rattle.ether_pcap.proofs.CopiesOne.{one_copy}
use Rattle.ether_pcap.proofs.laws.copies_are_one.Goals as goal

pub returns : goal.returns
returns c = record { some = some_copy; one = one_copy }
