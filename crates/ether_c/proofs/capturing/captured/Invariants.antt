use Rattle.std.proofs.Common.{◌+◌, ◌≤◌, length}
use Rattle.std.specs.Iterator.{size}
use Rattle.ether_pcap.specs.CaptureReading.{items_left}
use Rattle.ether_c.proofs.CapturedGiven.{CapturedSoFar}
use Rattle.ether_c.proofs.capturing.captured.Given as goal

abbrev pub invariant-loop-packet : goal.invariant-loop-packet
invariant-loop-packet l = (l.count + size (items_left l.reader) ≤ length l.file + 1)
    × CapturedSoFar l.file l.reader l.count l.fn.packets l.packets

abbrev pub decreases-loop-packet : goal.decreases-loop-packet
decreases-loop-packet l = size (items_left l.reader)
