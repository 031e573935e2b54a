use Rattle.ether_filter.proofs.Refused.{texts_mean_one}
use Rattle.ether_filter.proofs.laws.texts_mean_one.Goals as goal

pub returns : goal.returns
returns c = texts_mean_one
