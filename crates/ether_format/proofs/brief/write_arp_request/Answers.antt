use Rattle.ether_output.proofs.OutputBufferLemmas.{Takes-then, Takes-same}
use Rattle.ether_format.specs.Brief.{address_text}
use Rattle.ether_format.proofs.brief.write_arp_request.Goals as goal

pub returns : goal.returns
returns g c =
    let target = Takes-same (λ i. address_text (c.proto_addr_type-protocol.ensures i)
    (c.target_protocol_addr.ensures i)) c.write_address.ensures in
    let sender = Takes-same (λ i. address_text (c.proto_addr_type-protocol.ensures i)
    (c.sender_protocol_addr.ensures i)) c.write_address-2.ensures in
    Takes-then c.append.ensures (Takes-then target (Takes-then c.append-2.ensures sender))
