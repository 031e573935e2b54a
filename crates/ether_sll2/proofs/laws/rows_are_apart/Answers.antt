use Rattle.ether_sll2.proofs.LinuxSll2Laws.{rows_apart}
use Rattle.ether_sll2.proofs.laws.rows_are_apart.Goals as goal

pub returns : goal.returns
returns c = rows_apart
