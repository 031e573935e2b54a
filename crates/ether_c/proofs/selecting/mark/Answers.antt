use Rattle.std.proofs.Common.{rules}
use Rattle.ether_c.proofs.selecting.mark.Goals as goal

pub returns-then-selects : goal.returns-then-selects
returns-then-selects c x program = search rules

pub returns-else-selects : goal.returns-else-selects
returns-else-selects c x program = search rules
