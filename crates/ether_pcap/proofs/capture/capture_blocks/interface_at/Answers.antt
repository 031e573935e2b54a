use Rattle.ether_pcap.proofs.UnitsRead.{looked_up}
use Rattle.ether_pcap.proofs.capture.capture_blocks.interface_at.Goals as goal

pub returns : goal.returns
returns g c =
    looked_up (g.I.DescribedInterfaces.items c.args.interfaces.now) c.args.number c.interface.result c.interface.ensures
