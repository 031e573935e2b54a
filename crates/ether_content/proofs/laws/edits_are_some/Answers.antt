use Rattle.ether_content.proofs.EditsSome.{edits_some}
use Rattle.ether_content.proofs.laws.edits_are_some.Goals as goal

pub returns : goal.returns
returns c = edits_some
