use Rattle.ether_peel.proofs.Grammar.Cuts.{cuts_keep}
use Rattle.ether_peel.proofs.laws.cuts_keep.Goals as goal

pub returns : goal.returns
returns c = cuts_keep
