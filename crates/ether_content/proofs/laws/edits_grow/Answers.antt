use Rattle.ether_content.proofs.Growth.{edits_grow}
use Rattle.ether_content.proofs.laws.edits_grow.Goals as goal

pub returns : goal.returns
returns c = edits_grow
