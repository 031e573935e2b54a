use Rattle.std.proofs.Common.{rules, ◌≡◌, Some, sym}
use Rattle.ether_capture.proofs.CountTableLemmas.{at, with_one_more}
use Rattle.ether_capture.proofs.count_table.CountTable.add.Goals as goal

pub returns-in-Some : goal.returns-in-Some
returns-in-Some c =
    let old = c.args.self.now.counts in
    let is : at old c.args.key.now ≡ Some c.in-Some.count.now = sym c.in-Some.ensures.value in
    with_one_more old (c.get_mut.follows.lender c.with.result) c.args.key.now c.args.more c.in-Some.count.now
    c.with.result is
    c.with.ensures ((c.get_mut.follows.holds c.with.result).3 (search rules))
