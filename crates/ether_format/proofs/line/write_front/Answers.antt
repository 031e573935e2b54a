use Rattle.std.proofs.Common.{ap, ◌∙◌, sym}
use Rattle.std.specs.Option.{option_map}
use Rattle.ether_pcap.specs.CaptureViews.{captured_packet_view, timestamp_view}
use Rattle.ether_output.proofs.OutputBufferLemmas.{Takes-same}
use Rattle.ether_format.specs.Brief.{brief_front}
use Rattle.ether_format.specs.Lines.{front_text}
use Rattle.ether_format.specs.Origins.{origin_view}
use Rattle.ether_format.proofs.OneText.{one_time}
use Rattle.ether_format.proofs.line.write_front.Goals as goal

pub returns-in-Brief : goal.returns-in-Brief
returns-in-Brief g c moment is =
    Takes-same
    (ap (brief_front c.args.origin.now.number)
    (one_time (option_map timestamp_view c.args.packet.now.time) c.moment_if.result moment c.moment_if.ensures is)
    ∙ ap (λ l. front_text l (origin_view c.args.origin.now) (captured_packet_view c.args.packet.now) moment)
    (sym c.in-Brief.is))
    c.write_brief_front.ensures
