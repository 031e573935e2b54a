use Rattle.ether_base.proofs.Rows.{row_short}
use Rattle.ether_base.proofs.laws.length_rows_are_short.Goals as goal

pub returns : goal.returns
returns c = row_short
