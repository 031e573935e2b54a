use Rattle.ether_pcap.proofs.CaptureTimes.{same_time}
use Rattle.ether_pcap.proofs.capture.capture_interface.time.Goals as goal

pub returns : goal.returns
returns c = rw c.from-ticks.ensures (same_time c.args.ticks c.args.units c.requires)
