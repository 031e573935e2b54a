use Rattle.ether_switch.proofs.Passing.{only_tags_change}
use Rattle.ether_switch.proofs.laws.only_tags_change.Goals as goal

pub returns : goal.returns
returns c = only_tags_change
