use Rattle.std.proofs.Common.{rules}
use Rattle.ether_pcap.proofs.CaptureTimes.{power_of_ten, power_of_two, some_units, same_times}
use Rattle.ether_pcap.proofs.capture.capture_interface.power.Goals as goal

pub pow-requires : goal.pow-requires
pow-requires c = search (rules, power_of_ten)

pub pow-requires-else-resolution-lt128 : goal.pow-requires-else-resolution-lt128
pow-requires-else-resolution-lt128 c = search (rules, power_of_two)

pub returns-then-resolution-lt128-clause-some : goal.returns-then-resolution-lt128-clause-some
returns-then-resolution-lt128-clause-some c = rw c.pow.ensures (some_units c.from.result)

pub returns-then-resolution-lt128-clause-same_times : goal.returns-then-resolution-lt128-clause-same_times
returns-then-resolution-lt128-clause-same_times c ticks lt = search (rules, same_times)
