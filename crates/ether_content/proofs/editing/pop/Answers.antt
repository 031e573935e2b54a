use Rattle.std.proofs.Common.{◌∙◌}
use Rattle.ether_pcap.specs.CaptureViews.{captured_packet_view}
use Rattle.ether_content.specs.Editing.{not_popped, no_frame}
use Rattle.ether_content.proofs.EditingLemmas.{not_framed}
use Rattle.ether_content.proofs.editing.pop.Goals as goal

pub returns-in_default-clause-edits : goal.returns-in_default-clause-edits
returns-in_default-clause-edits c =
    not_popped (captured_packet_view c.args.packet.now)
    (no_frame (λ next frame e. not_framed c.of.result c.in_default.not-Frame next frame (c.of.ensures ∙ e)))
