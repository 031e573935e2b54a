use Rattle.ether_peel.proofs.Grammar.Places.{is_local}
use Rattle.ether_peel.proofs.laws.stacks_are_local.Goals as goal

pub returns : goal.returns
returns c = is_local
