use Rattle.ether_filter.proofs.Iffs.{iff_trans, and_then, and_self}
use Rattle.ether_filter.proofs.LaterCompletions.{sec_tag_follows}
use Rattle.ether_filter.proofs.prospect.Prospect.sec_tag_can_follow.Goals as goal

pub returns-then-self-clause-packets : goal.returns-then-self-clause-packets
returns-then-self-clause-packets c packet hs kind known room o =
    iff_trans (and_then c.args.self.can_be_accepted c.can_sec_tag.result c.if-self.true
    (λ t. t, λ t. t) c.can_sec_tag.ensures)
    (sec_tag_follows packet hs kind known room c.args.self o)

pub returns-else-self-clause-packets : goal.returns-else-self-clause-packets
returns-else-self-clause-packets c packet hs kind known room o =
    iff_trans (and_self c.args.self.can_be_accepted c.if-self.false (λ t. t, λ t. t))
    (sec_tag_follows packet hs kind known room c.args.self o)
