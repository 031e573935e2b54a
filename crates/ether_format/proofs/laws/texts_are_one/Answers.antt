use Rattle.ether_format.proofs.OneText.{texts_are_one}
use Rattle.ether_format.proofs.laws.texts_are_one.Goals as goal

pub returns : goal.returns
returns c = texts_are_one
