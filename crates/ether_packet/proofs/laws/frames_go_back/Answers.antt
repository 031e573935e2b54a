use Rattle.ether_packet.proofs.Frames.{frames_go_back}
use Rattle.ether_packet.proofs.laws.frames_go_back.Goals as goal

pub returns : goal.returns
returns c = frames_go_back
