use Rattle.std.proofs.Common.{rules}
use Rattle.ether_pcap.specs.Capture.{enhanced_alone}
use Rattle.ether_pcap.specs.PcapngViews.{enhanced_packet_view}
use Rattle.ether_pcap.specs.CaptureViews.{capture_interface_view}
use Rattle.ether_pcap.specs.Views.{order_of}
use Rattle.ether_pcap.proofs.Options.{some_options}
use Rattle.ether_pcap.proofs.capture.capture_blocks.enhanced_packet.Goals as goal

pub returns-in_default-clause-refused : goal.returns-in_default-clause-refused
returns-in_default-clause-refused g c most =
    enhanced_alone _ (enhanced_packet_view c.in-Ok.packet) c.in-Ok.ensures.packet c.in_default.ensures

pub returns-clause-packet : goal.returns-clause-packet
returns-clause-packet g c most =
    let p = enhanced_packet_view c.in-Ok.packet in
    let i = capture_interface_view c.in-Some.interface in
    let all = some_options (order_of c.args.byte_order) p.options in
    let time = c.time.ensures in search rules
