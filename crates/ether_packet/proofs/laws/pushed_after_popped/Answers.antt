use Rattle.ether_packet.proofs.PushedPopped.{pushed_after_popped}
use Rattle.ether_packet.proofs.laws.pushed_after_popped.Goals as goal

pub returns : goal.returns
returns c = pushed_after_popped
