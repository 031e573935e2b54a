use Rattle.std.proofs.Common.{ap}
use Rattle.ether_pcap.specs.Capture.{kind_of_block}
use Rattle.ether_pcap.proofs.UnitsRead.{described_body}
use Rattle.ether_pcap.proofs.capture.capture_blocks.read_body.Goals as goal

pub returns-in_ok-interface-in-1-clause-body : goal.returns-in_ok-interface-in-1-clause-body
returns-in_ok-interface-in-1-clause-body g c =
    described_body (kind_of_block c.args.block.block_type) c.args.byte_order
    (g.I.DescribedInterfaces.items c.args.interfaces.now) c.args.block.body.now c.in_ok-interface-in-1.interface
    (ap kind_of_block c.in-1.is) c.in_ok-interface-in-1.ensures.interface
