use Rattle.ether_content.proofs.HeadersLemmas.{headers_one}
use Rattle.ether_content.proofs.laws.headers_take_one.Goals as goal

pub returns : goal.returns
returns c = headers_one
