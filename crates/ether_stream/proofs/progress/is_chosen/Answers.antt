use Rattle.std.proofs.Common.{Option, subst, sym}
use Rattle.std.specs.Option.{option_map}
use Rattle.ether_pcap.specs.CaptureViews.{captured_packet_view}
use Rattle.ether_pcap.specs.declared.capture.captured_packet.CapturedPacket.{CapturedPacket}
use Rattle.ether_stream.specs.Progress.{IsChoice}
use Rattle.ether_stream.proofs.progress.is_chosen.Goals as goal

pub returns-in-Some : goal.returns-in-Some
returns-in-Some c =
    subst
    (λ (o : Option CapturedPacket). IsChoice c.args.task.now.selection
    (option_map captured_packet_view o) c.chooses.result)
    (sym c.in-Some.is) c.chooses.ensures
