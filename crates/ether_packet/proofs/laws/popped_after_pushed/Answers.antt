use Rattle.ether_packet.proofs.PushedPopped.{popped_after_pushed}
use Rattle.ether_packet.proofs.laws.popped_after_pushed.Goals as goal

pub returns : goal.returns
returns c = popped_after_pushed
