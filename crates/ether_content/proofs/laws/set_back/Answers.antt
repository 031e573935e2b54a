use Rattle.ether_content.proofs.SetBack.{set_back}
use Rattle.ether_content.proofs.laws.set_back.Goals as goal

pub returns : goal.returns
returns c = set_back
