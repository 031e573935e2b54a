use Rattle.std.proofs.Common.{subst}
use Rattle.ether_pcap.specs.CaptureViews.{captured_packet_view}
use Rattle.ether_peel.specs.Walker.Start.{next_of}
use Rattle.ether_content.specs.Content.{ContentValue, IsWalked}
use Rattle.ether_content.proofs.SelectingLemmas.{selected}
use Rattle.ether_content.proofs.program.selects.Goals as goal

pub returns-in-Some : goal.returns-in-Some
returns-in-Some c x program =
    selected x (captured_packet_view c.args.packet.now) (next_of c.in-Some.start) c.in-Some.frame.now
    c.holds.result
    (subst (λ (content : ContentValue). IsWalked content (next_of c.in-Some.start) c.in-Some.frame.now) c.of.ensures
    c.in-Some.ensures.some)
    (c.holds.ensures x program)
