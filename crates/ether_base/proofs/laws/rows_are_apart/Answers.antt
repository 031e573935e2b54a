use Rattle.ether_base.proofs.Rows.{one_row, decide}
use Rattle.ether_base.proofs.laws.rows_are_apart.Goals as goal

pub returns : goal.returns
returns c = record { one = one_row; decided = decide }
