use Rattle.std.proofs.Common.{◌∙◌}
use Rattle.ether_pcap.specs.CaptureViews.{captured_packet_view}
use Rattle.ether_content.specs.Editing.{not_pushed, no_frame}
use Rattle.ether_content.proofs.EditingLemmas.{not_framed}
use Rattle.ether_content.proofs.editing.push.Goals as goal

pub returns-in_default-clause-edits : goal.returns-in_default-clause-edits
returns-in_default-clause-edits c =
    not_pushed (captured_packet_view c.args.packet.now) c.args.tpid.0 c.args.vlan_id
    (no_frame (λ next frame e. not_framed c.of.result c.in_default.not-Frame next frame (c.of.ensures ∙ e)))
