use Rattle.ether_format.proofs.ColumnLemmas.{columns_are_members}
use Rattle.ether_format.proofs.laws.columns_are_members.Goals as goal

pub returns : goal.returns
returns c = columns_are_members
