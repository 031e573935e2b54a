use Rattle.ether_sll2.proofs.LinuxSll2Laws.{bytes_mean}
use Rattle.ether_sll2.proofs.laws.bytes_mean_their_value.Goals as goal

pub returns : goal.returns
returns c = bytes_mean
