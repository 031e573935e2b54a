use Rattle.ether_peel.specs.Walker.Start.{start_with}
use Rattle.ether_text.proofs.FeedLinesLemmas.{fed_fault, fed_whole}
use Rattle.ether_text.proofs.feed_lines.write_feed.Goals as goal

pub returns-in-Some : goal.returns-in-Some
returns-in-Some g c =
    fed_fault g.W.Sink.contents g.W.Sink.can_fail (start_with c.args.start c.args.limit) c.args.frame.now
    c.fed-outcome.result c.args.out.now c.write_counts.new.out c.write_fault.new.out c.in-Some.fault
    c.fed-outcome.ensures c.in-Some.is c.write_counts.ensures c.write_fault.ensures

pub returns-in-None : goal.returns-in-None
returns-in-None g c =
    fed_whole g.W.Sink.contents g.W.Sink.can_fail (start_with c.args.start c.args.limit) c.args.frame.now
    c.fed-outcome.result c.args.out.now c.write_counts.new.out
    c.fed-outcome.ensures c.in-None.is c.write_counts.ensures
