use Rattle.ether_sll2.proofs.LinuxSll2Laws.{headers_meant}
use Rattle.ether_sll2.proofs.laws.headers_are_meant.Goals as goal

pub returns : goal.returns
returns c = headers_meant
