use Rattle.ether_peel.proofs.Grammar.Cleared.{headers_go_back}
use Rattle.ether_peel.proofs.laws.headers_go_back.Goals as goal

pub returns : goal.returns
returns c = headers_go_back
