use Rattle.ether_pcap.proofs.Options.{some_options, same_options}
use Rattle.ether_pcap.proofs.laws.options_are_one.Goals as goal

pub returns : goal.returns
returns c = record { some = some_options; one = same_options }
