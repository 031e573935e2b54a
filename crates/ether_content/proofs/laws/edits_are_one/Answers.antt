use Rattle.ether_content.proofs.EditsOne.{edits_one}
use Rattle.ether_content.proofs.laws.edits_are_one.Goals as goal

pub returns : goal.returns
returns c = edits_one
