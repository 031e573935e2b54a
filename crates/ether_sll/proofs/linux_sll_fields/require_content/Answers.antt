use Rattle.std.proofs.Common.{arith, rules}
use Rattle.ether_sll.proofs.LinuxSllFields.{refused_packet_type, refused_hardware}
use Rattle.ether_sll.proofs.linux_sll_fields.require_content.Goals as goal

pub returns-in_err-try_from-clause-refused : goal.returns-in_err-try_from-clause-refused
returns-in_err-try_from-clause-refused c =
    let e = c.in_err-try_from.ensures in
    let h =
    refused_packet_type c.args.bytes.now c.packet_type_number.result _ (λ i. omega (arith, c.type_inv.bytes i))
    c.requires c.packet_type_number.ensures e.0 e.1 in
    search (rules, h)

pub returns-in_err-try_from-2-clause-refused : goal.returns-in_err-try_from-2-clause-refused
returns-in_err-try_from-2-clause-refused c =
    let p = c.packet_type_number.ensures in
    let le = c.in_ok-try_from.ensures.0 in
    let h =
    refused_hardware c.args.bytes.now c.arp_hardware_type.result c.protocol_number.result _
    (λ i. omega (arith, c.type_inv.bytes i)) c.requires (omega arith) c.arp_hardware_type.ensures
    c.in_err-try_from-2.ensures.0 in
    search (rules, h)
