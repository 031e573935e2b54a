use Rattle.ether_capture.proofs.MergingLemmas.{no_count, no_count_before}
use Rattle.ether_capture.proofs.count_line.count_in.Goals as goal

pub returns-in_err-front-clause-none : goal.returns-in_err-front-clause-none
returns-in_err-front-clause-none c = rw c.from_residual.ensures (no_count c.args.line.now c.in_err-front.ensures.none)

pub returns-in_err-key-clause-none : goal.returns-in_err-key-clause-none
returns-in_err-key-clause-none c =
    let is = c.in_ok-front.ensures.some in
    rw c.from_residual-in_err-key.ensures
    (no_count_before c.args.line.now c.in_ok-front.front.now is.0 c.in_ok-front.bytes is.1 is.2
    c.in_err-key.ensures.none)
