use Rattle.std.proofs.Common.{◌∙◌}
use Rattle.ether_pcap.specs.CaptureViews.{captured_packet_view}
use Rattle.ether_content.specs.Editing.{not_set, no_frame}
use Rattle.ether_content.proofs.EditingLemmas.{not_framed}
use Rattle.ether_content.proofs.editing.set.Goals as goal

pub returns-in_default-clause-edits : goal.returns-in_default-clause-edits
returns-in_default-clause-edits c =
    not_set (captured_packet_view c.args.packet.now) c.args.from c.args.to
    (no_frame (λ next frame e. not_framed c.of.result c.in_default.not-Frame next frame (c.of.ensures ∙ e)))
