use Rattle.ether_packet.proofs.Frames.{changed_frames_are_read}
use Rattle.ether_packet.proofs.laws.changed_frames_are_read.Goals as goal

pub returns : goal.returns
returns c = changed_frames_are_read
