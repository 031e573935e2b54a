use Rattle.ether_pcap.specs.Capture.{interface}
use Rattle.ether_pcap.specs.PcapngViews.{body_refusal_view}
use Rattle.ether_pcap.proofs.capture.capture_blocks.described.Goals as goal

pub returns-in-Err-clause-refused : goal.returns-in-Err-clause-refused
returns-in-Err-clause-refused c most before = interface (body_refusal_view c.in-Err.error) c.in-Err.ensures.refused
