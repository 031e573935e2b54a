use Rattle.ether_pcap.specs.CaptureViews.{captured_packet_view}
use Rattle.std.proofs.Common.{sym, ◌∙◌}
use Rattle.ether_content.proofs.UndecidedLemmas.{whole_outcome}
use Rattle.ether_content.proofs.program.decide.Goals as goal

pub returns-then-missing_len-eq0 : goal.returns-then-missing_len-eq0
returns-then-missing_len-eq0 c x program =
    whole_outcome x (captured_packet_view c.args.packet.now) c.selects.result
    (sym c.missing_len.ensures ∙ c.if-missing_len-eq0.true) (c.selects.ensures x program)
