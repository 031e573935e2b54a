use Rattle.std.proofs.Common.{refl, sym}
use Rattle.ether_filter.proofs.certain.certain_of.Goals as goal

pub returns-clause-walk : goal.returns-clause-walk
returns-clause-walk c free is none more =
    c.cut_walk-end.ensures.walk free is none more c.args.plain refl refl (sym c.frame_total-total.ensures)
