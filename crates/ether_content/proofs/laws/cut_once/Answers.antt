use Rattle.ether_content.proofs.CutOnce.{cut_once}
use Rattle.ether_content.proofs.laws.cut_once.Goals as goal

pub returns : goal.returns
returns c = cut_once
