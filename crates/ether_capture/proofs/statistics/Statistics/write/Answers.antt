use Rattle.std.proofs.Common.{rules}
use Rattle.ether_capture.proofs.HeldRowsLemmas.{shown}
use Rattle.ether_capture.proofs.statistics.Statistics.write.Goals as goal

pub returns-clause-written : goal.returns-clause-written
returns-clause-written g c going =
    shown g.G.Grouping.is_joint g.J.Journal.is_known c.args.self.now.has_failed _ c.args.self.now.rows
    c.add_total.new.self c.args.format _ _
    c.write.ensures.rows c.args.self.now.kept going c.in_ok-add_total.ensures c.write.ensures.are_rows (search rules)
