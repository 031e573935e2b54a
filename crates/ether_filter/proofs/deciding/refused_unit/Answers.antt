use Rattle.std.proofs.Common.{◌∙◌, sym}
use Rattle.ether_peel.specs.Walker.Start.{start_of}
use Rattle.ether_filter.proofs.Opened.{fault_is, misses, refused_is}
use Rattle.ether_filter.proofs.deciding.refused_unit.Goals as goal

pub returns-in_err-missing : goal.returns-in_err-missing
returns-in_err-missing c hs e walk =
    let start = start_of c.args.start in
    let is = fault_is start c.args.frame.now c.summary.result hs e c.summary.ensures walk in
    rw c.from_residual-in_err-missing.ensures
    (λ o. let m = misses start c.args.frame.now hs e c.in_ok-fault.fault walk (sym is ∙ c.in_ok-fault.was) o
    in c.in_err-missing.ensures m.0 m.1)

pub returns-in-Len : goal.returns-in-Len
returns-in-Len c hs e walk =
    let start = start_of c.args.start in
    let is = fault_is start c.args.frame.now c.summary.result hs e c.summary.ensures walk in
    refused_is start c.args.frame.now hs e c.in_ok-fault.fault c.in_ok-missing.missing c.in-Len.error walk
    (sym is ∙ c.in_ok-fault.was) c.in_ok-missing.ensures c.in-Len.is
