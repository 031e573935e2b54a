use Rattle.std.proofs.Common.{arith}
use Rattle.ether_base.proofs.LinuxSllFields.{linux_sll_written}
use Rattle.ether_sll.proofs.linux_sll_header.joined.Goals as goal

pub returns : goal.returns
returns c =
    let w =
    linux_sll_written c.args.packet_type c.args.hardware c.args.address_len c.args.address.now c.args.protocol
    c.to_be_bytes-p.result c.to_be_bytes-h.result c.to_be_bytes-l.result c.to_be_bytes-t.result
    (omega arith) (omega arith) (omega arith) (λ i. omega (arith, c.type_inv.address i)) c.requires (omega arith)
    c.to_be_bytes-p.ensures c.to_be_bytes-h.ensures c.to_be_bytes-l.ensures c.to_be_bytes-t.ensures in
    record { value = w.0; bytes = w.1; address = w.2 }
