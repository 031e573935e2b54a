use Rattle.std.proofs.Common.{◌≡◌, ◌++◌, ◌-◌, length}
use Rattle.ether_pcap.specs.Writing.{zeros}
use Rattle.ether_make.proofs.frame.with_zeros.Given as goal

abbrev pub invariant-loop-padded : goal.invariant-loop-padded
invariant-loop-padded l =
    l.padded.items ++ zeros (60 - length l.padded.items) ≡ l.fn.bytes.items ++ zeros (60 - length l.fn.bytes.items)

abbrev pub decreases-loop-padded : goal.decreases-loop-padded
decreases-loop-padded l = 60 - length l.padded.items
