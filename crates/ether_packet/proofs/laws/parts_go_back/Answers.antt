use Rattle.ether_packet.proofs.PartsBack.{parts_go_back}
use Rattle.ether_packet.proofs.laws.parts_go_back.Goals as goal

pub returns : goal.returns
returns c = parts_go_back
