use Rattle.ether_peel.proofs.Grammar.Extensions.{extensions_keep}
use Rattle.ether_peel.proofs.laws.extensions_keep.Goals as goal

pub returns : goal.returns
returns c = extensions_keep
