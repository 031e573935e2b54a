use Rattle.std.proofs.Common.{◌≡◌, ◌+◌, length, sym, arith, rules}
use Rattle.ether_filter.proofs.Opened.{not_open, out_of_reach, in_reach}
use Rattle.ether_filter.proofs.deciding.find_opening.Goals as goal

pub returns-in_err-missing-clause-opening : goal.returns-in_err-missing-clause-opening
returns-in_err-missing-clause-opening c hs e walk =
    rw c.from_residual.ensures
    (not_open c.args.packet.now e (sym c.if-has_fcs.ensures) (c.in_err-missing.ensures hs e walk))

pub returns-then-missing-lost-clause-opening : goal.returns-then-missing-lost-clause-opening
returns-then-missing-lost-clause-opening c hs e walk =
    out_of_reach c.args.packet.now e c.in_ok-missing.missing c.in_ok-missing.layer (sym c.if-has_fcs.ensures)
    (c.in_ok-missing.ensures hs e walk) (omega arith)

pub returns-then-has_fcs-clause-opening : goal.returns-then-has_fcs-clause-opening
returns-then-has_fcs-clause-opening c hs e walk =
    let sum : c.saturating_add.result ≡ length c.args.packet.now.frame.now + c.lost-lost.result = search rules in
    rw sum (search rules)

pub returns-clause-opening : goal.returns-clause-opening
returns-clause-opening c hs e walk =
    let sum : c.saturating_add-2.result ≡ length c.args.packet.now.frame.now + c.in_ok-missing.missing = search rules in
    rw sum
    (in_reach c.args.packet.now e c.in_ok-missing.missing c.in_ok-missing.layer (c.in_ok-missing.ensures hs e walk)
    (omega arith) (omega arith))
