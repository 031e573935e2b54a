use Rattle.std.proofs.Common.{◌∙◌, sym}
use Rattle.etherparse.specs.Arp.{arp_of}
use Rattle.ether_output.proofs.OutputBufferLemmas.{Takes-same}
use Rattle.ether_format.proofs.BriefLemmas.{of_reply, of_request}
use Rattle.ether_format.proofs.brief.write_arp.Goals as goal

pub returns-then-operation-eq1 : goal.returns-then-operation-eq1
returns-then-operation-eq1 g c =
    let is = sym c.operation-operation.ensures ∙ c.if-operation-eq1.true in
    Takes-same (sym (of_request (arp_of c.args.packet.now) is)) c.write_arp_request.ensures

pub returns-then-operation-eq2 : goal.returns-then-operation-eq2
returns-then-operation-eq2 g c =
    let is = sym c.operation-operation.ensures ∙ c.if-operation-eq2.true in
    Takes-same
    (sym (of_reply (arp_of c.args.packet.now) (λ e. c.if-operation-eq1.false (c.operation-operation.ensures ∙ e)) is))
    c.write_arp_reply.ensures
