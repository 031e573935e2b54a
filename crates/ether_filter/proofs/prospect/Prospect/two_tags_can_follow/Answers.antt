use Rattle.ether_filter.proofs.Iffs.{iff_trans, and_then, and_self}
use Rattle.ether_filter.proofs.LaterCompletions.{two_tags_follow}
use Rattle.ether_filter.proofs.prospect.Prospect.two_tags_can_follow.Goals as goal

pub returns-then-self-clause-packets : goal.returns-then-self-clause-packets
returns-then-self-clause-packets c packet hs kind known room o =
    iff_trans (and_then c.args.self.can_be_accepted c.can_two_tags.result c.if-self.true
    (λ t. t, λ t. t) c.can_two_tags.ensures)
    (two_tags_follow packet hs kind known room c.args.self o)

pub returns-else-self-clause-packets : goal.returns-else-self-clause-packets
returns-else-self-clause-packets c packet hs kind known room o =
    iff_trans (and_self c.args.self.can_be_accepted c.if-self.false (λ t. t, λ t. t))
    (two_tags_follow packet hs kind known room c.args.self o)
