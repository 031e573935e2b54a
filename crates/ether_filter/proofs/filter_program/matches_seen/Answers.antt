use Rattle.std.proofs.Common.{sym, arith}
use Rattle.ether_filter.proofs.ProgramLemmas.{only_primitive}
use Rattle.ether_filter.proofs.filter_program.matches_seen.Goals as goal

pub returns-in-Some : goal.returns-in-Some
returns-in-Some c x p hs e walk shows =
    let told = c.in-Some.ensures.some in
    rw (only_primitive c.args.instructions.now x told.0 p
    (omega (arith, c.in-len1.len_at_least, c.in-len1.len_below)) (sym told.1))
    (told.2 hs e walk shows)
