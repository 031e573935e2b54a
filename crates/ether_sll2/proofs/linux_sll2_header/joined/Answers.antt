use Rattle.std.proofs.Common.{arith}
use Rattle.ether_sll2.proofs.LinuxSll2Fields.{linux_sll2_written}
use Rattle.ether_sll2.proofs.linux_sll2_header.joined.Goals as goal

pub returns : goal.returns
returns c =
    let a = c.args in
    let w = linux_sll2_written a.protocol a.interface_index a.hardware a.packet_type a.address_len a.address.now
    c.bytes_of_u16-p.result c.bytes_of_u32-i.result c.bytes_of_u16-h.result
    (omega arith) (omega arith) (omega arith) (omega arith) (omega arith)
    (λ i. omega (arith, c.type_inv.address i)) c.requires
    c.bytes_of_u16-p.ensures c.bytes_of_u32-i.ensures c.bytes_of_u16-h.ensures in
    record { value = w.0; bytes = w.1; address = w.2 }
