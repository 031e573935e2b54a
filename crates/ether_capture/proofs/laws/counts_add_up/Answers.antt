use Rattle.ether_capture.proofs.MergeLawLemmas.{counts_add_up}
use Rattle.ether_capture.proofs.laws.counts_add_up.Goals as goal

pub returns : goal.returns
returns c = counts_add_up
