use Rattle.ether_filter.proofs.Iffs.{iff_trans, and_then, and_self}
use Rattle.ether_filter.proofs.LaterCompletions.{tag_follows}
use Rattle.ether_filter.proofs.prospect.Prospect.tag_can_follow.Goals as goal

pub returns-then-self-clause-packets : goal.returns-then-self-clause-packets
returns-then-self-clause-packets c packet hs kind known room o =
    iff_trans (and_then c.args.self.can_be_accepted c.can_tag.result c.if-self.true (λ t. t, λ t. t) c.can_tag.ensures)
    (tag_follows packet hs kind known room c.args.self o)

pub returns-else-self-clause-packets : goal.returns-else-self-clause-packets
returns-else-self-clause-packets c packet hs kind known room o =
    iff_trans (and_self c.args.self.can_be_accepted c.if-self.false (λ t. t, λ t. t))
    (tag_follows packet hs kind known room c.args.self o)
