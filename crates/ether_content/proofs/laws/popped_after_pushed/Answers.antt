use Rattle.ether_content.proofs.PushedPopped.{popped_after_pushed}
use Rattle.ether_content.proofs.laws.popped_after_pushed.Goals as goal

pub returns : goal.returns
returns c = popped_after_pushed
