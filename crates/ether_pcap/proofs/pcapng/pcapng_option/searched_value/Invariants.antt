use Rattle.std.proofs.Common.{length}
use Rattle.ether_pcap.specs.Views.{order_of}
use Rattle.ether_pcap.proofs.Options.{Agrees}
use Rattle.ether_pcap.proofs.pcapng.pcapng_option.searched_value.Given as goal

abbrev pub invariant-loop-option : goal.invariant-loop-option
invariant-loop-option l = Agrees (order_of l.byte_order) l.code l.options l.rest

abbrev pub decreases-loop-option : goal.decreases-loop-option
decreases-loop-option l = length l.rest
