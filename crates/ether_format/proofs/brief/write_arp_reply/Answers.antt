use Rattle.std.proofs.Common.{ap}
use Rattle.ether_output.proofs.OutputBufferLemmas.{Takes-then, Takes-same}
use Rattle.ether_format.specs.Brief.{address_text}
use Rattle.ether_format.specs.Spelling.{colon_text}
use Rattle.ether_format.proofs.brief.write_arp_reply.Goals as goal

pub returns : goal.returns
returns g c =
    let sender = Takes-same (λ i. address_text (c.proto_addr_type-protocol.ensures i)
    (c.sender_protocol_addr.ensures i)) c.write_address.ensures in
    let hardware = Takes-same (ap colon_text c.sender_hw_addr.ensures) c.write_colons.ensures in
    Takes-then c.append.ensures (Takes-then sender (Takes-then c.append-2.ensures hardware))
