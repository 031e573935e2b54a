use Rattle.std.proofs.Common.{arith, sym}
use Rattle.ether_packet.proofs.HeadersIn.{packet_shown}
use Rattle.ether_packet.proofs.packet_units.arp_slice.Goals as goal

pub returns-clause-value : goal.returns-clause-value
returns-clause-value c =
    sym (packet_shown c.args.bytes.now _ (λ i. omega (arith, c.type_inv.bytes i)) c.in-Ok.ensures.value)
