use Rattle.std.proofs.Common.{◌+◌, ◌≤◌, length}
use Rattle.std.specs.Iterator.{size}
use Rattle.ether_pcap.specs.OptionReading.{items_left}
use Rattle.ether_c.proofs.OptionsGiven.{UnderWay}
use Rattle.ether_c.proofs.unit_options.put_options.Given as goal

abbrev pub invariant-loop-option : goal.invariant-loop-option
invariant-loop-option l =
    (l.count + size (items_left l.option-iterator) ≤ length l.fn.found.rest)
    × UnderWay l.fn.found l.option-iterator l.count l.fn.options l.options

abbrev pub decreases-loop-option : goal.decreases-loop-option
decreases-loop-option l = size (items_left l.option-iterator)
