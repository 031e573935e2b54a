use Rattle.std.proofs.Common.{sym, ◌∙◌}
use Rattle.ether_filter.proofs.PassedTags.{passes_more, passes_last}
use Rattle.ether_filter.proofs.jumps.past_next.Goals as goal

pub returns-then-asks_tags : goal.returns-then-asks_tags
returns-then-asks_tags c js is are =
    let index = c.from-index.result in
    passes_more c.args.nodes.now js c.args.at index _ _ (is ∙ sym c.from-index.ensures) c.if-index-nodes.true
    (sym c.if-asks_tags.ensures) (are index c.if-at-index.true c.if-index-nodes.true)

pub returns : goal.returns
returns c js is are = passes_last c.args.nodes.now js c.args.at c.args.next is
