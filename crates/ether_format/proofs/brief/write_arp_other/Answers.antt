use Rattle.std.proofs.Common.{ap, ◌∙◌, ◌++◌}
use Rattle.std.specs.Prelude.{codes}
use Rattle.std.specs.Fmt.{decimal}
use Rattle.ether_output.proofs.OutputBufferLemmas.{Takes-then, Takes-same}
use Rattle.ether_format.specs.Brief.{address_text}
use Rattle.ether_format.proofs.brief.write_arp_other.Goals as goal

pub returns : goal.returns
returns g c =
    let operation = Takes-same (ap (λ n. codes " ARP op " ++ decimal n) (c.from.ensures ∙ c.operation.ensures))
    c.write_number.ensures in
    let sender = Takes-same (λ i. address_text (c.proto_addr_type-protocol.ensures i)
    (c.sender_protocol_addr.ensures i)) c.write_address.ensures in
    let target = Takes-same (λ i. address_text (c.proto_addr_type-protocol.ensures i)
    (c.target_protocol_addr.ensures i)) c.write_address-2.ensures in
    Takes-then operation (Takes-then c.append.ensures (Takes-then sender (Takes-then c.append-2.ensures target)))
