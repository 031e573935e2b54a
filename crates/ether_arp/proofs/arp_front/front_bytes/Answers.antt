use Rattle.std.proofs.Common.{arith}
use Rattle.ether_base.specs.Formats.Arp.{ArpFront}
use Rattle.ether_arp.proofs.Writing.{front_written}
use Rattle.ether_arp.proofs.arp_front.front_bytes.Goals as goal

pub returns : goal.returns
returns c =
    let front : ArpFront = record {
      hardware_type = c.args.hw_addr_type;
      protocol_type = c.args.proto_addr_type;
      hardware_size = c.args.hw_addr_size;
      protocol_size = c.args.proto_addr_size;
      operation = c.args.operation;
    } in
    let bytes =
    front_written front c.to_be_bytes-h.result c.to_be_bytes-p.result c.to_be_bytes-o.result (omega arith)
    (omega arith) (omega arith) (omega arith) (omega arith) c.to_be_bytes-h.ensures c.to_be_bytes-p.ensures
    c.to_be_bytes-o.ensures in (
      bytes,
      record {
        hardware_type = omega arith;
        protocol_type = omega arith;
        hardware_size = omega arith;
        protocol_size = omega arith;
        operation = omega arith;
      },
    )
