use Rattle.std.proofs.Common.{arith}
use Rattle.ether_base.specs.Bytes.{IsBytes}
use Rattle.ether_sll2.proofs.LinuxSll2Fields.{refused_packet_type}
use Rattle.ether_sll2.proofs.linux_sll2_fields.require_packet_type.Goals as goal

pub returns-in-Err-clause-refused : goal.returns-in-Err-clause-refused
returns-in-Err-clause-refused c =
    let bytes = c.args.bytes.now in
    let ok : IsBytes bytes = λ i. omega (arith, c.type_inv.bytes i) in
    let n = c.packet_type_number-number in
    let e = c.in-Err.ensures.0 in
    refused_packet_type bytes n.result ok c.requires n.ensures (omega (arith, e, c.from.ensures))
