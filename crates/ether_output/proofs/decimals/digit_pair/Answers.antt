use Rattle.ether_output.proofs.DecimalLemmas.{pair_at}
use Rattle.ether_output.proofs.decimals.digit_pair.Goals as goal

pub returns : goal.returns
returns c = pair_at c.args.number c.requires
