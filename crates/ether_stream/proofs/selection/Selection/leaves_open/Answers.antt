use Rattle.std.proofs.Common.{sym}
use Rattle.ether_pcap.specs.CaptureViews.{captured_packet_view}
use Rattle.ether_stream.proofs.Uncut.{never_undecided}
use Rattle.ether_stream.proofs.selection.Selection.leaves_open.Goals as goal

pub returns-else-is_cut : goal.returns-else-is_cut
returns-else-is_cut c = (
  λ t. absurd cc,
  λ undecided. absurd (never_undecided c.args.self.now.filter (captured_packet_view c.args.packet.now)
      (sym c.if-is_cut.ensures) undecided),
)
