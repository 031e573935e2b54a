use Rattle.ether_filter.proofs.LeastBytes.{open_undecided, closed_decided}
use Rattle.ether_filter.proofs.least.stays_open.Goals as goal

pub returns-clause-undecided : goal.returns-clause-undecided
returns-clause-undecided c free t packet hs known room o fits a =
    let both = c.is_open.ensures.0 t in
    open_undecided c.args.primitive packet c.possible_after.result
    (c.possible_after.ensures free packet hs known room o fits a) both.0 both.1

pub returns-clause-decided : goal.returns-clause-decided
returns-clause-decided c free never packet hs known room o fits a =
    closed_decided c.args.primitive packet c.possible_after.result
    (c.possible_after.ensures free packet hs known room o fits a) (λ both. never (c.is_open.ensures.1 both))
