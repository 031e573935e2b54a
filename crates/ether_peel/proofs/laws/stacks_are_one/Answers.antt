use Rattle.ether_peel.proofs.Grammar.Stacks.{some_stack, one_stack}
use Rattle.ether_peel.proofs.laws.stacks_are_one.Goals as goal

pub returns : goal.returns
returns c = record { some = some_stack; one = one_stack }
