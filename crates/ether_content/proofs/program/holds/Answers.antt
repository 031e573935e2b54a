use Rattle.std.proofs.Common.{arith, length}
use Rattle.ether_peel.specs.Walker.Start.{next_of}
use Rattle.ether_pcap.specs.CaptureViews.{captured_packet_view}
use Rattle.ether_content.specs.Selecting.{time_of}
use Rattle.ether_content.proofs.SelectingLemmas.{asked_holds, holds_of}
use Rattle.ether_content.proofs.program.holds.Goals as goal

pub returns : goal.returns
returns c x program =
    let packet = c.args.packet.now in
    holds_of x (next_of c.args.start) c.args.frame.now (length packet.packet.now) packet.original_len
    (time_of (captured_packet_view packet)) c.matches.result (λ i. omega (arith, c.type_inv.frame i))
    (asked_holds x c.args.start c.args.frame packet c.asked.result c.matches.result c.asked.ensures
    (c.matches.ensures x program))
