use Rattle.ether_text.specs.Tool.Mode.{eth, fcs, sll, feed}
use Rattle.ether_text.proofs.tool.ModeLemmas.{NamesMode-none, NamesMode-word, NamesMode-type}
use Rattle.ether_text.proofs.tool.mode.named_mode.Goals as goal

pub returns-in-empty-clause-ok : goal.returns-in-empty-clause-ok
returns-in-empty-clause-ok c = NamesMode-none c.args.words.now c.in-empty.len_below

pub returns-in-eth-clause-ok : goal.returns-in-eth-clause-ok
returns-in-eth-clause-ok c =
    NamesMode-word c.args.words.now _ _ _ c.in-eth.len_at_least c.in-eth.len_below c.in-eth.is-eth eth

pub returns-in-fcs-clause-ok : goal.returns-in-fcs-clause-ok
returns-in-fcs-clause-ok c =
    NamesMode-word c.args.words.now _ _ _ c.in-fcs.len_at_least c.in-fcs.len_below c.in-fcs.is-fcs fcs

pub returns-in-sll-clause-ok : goal.returns-in-sll-clause-ok
returns-in-sll-clause-ok c =
    NamesMode-word c.args.words.now _ _ _ c.in-sll.len_at_least c.in-sll.len_below c.in-sll.is-sll sll

pub returns-in-feed-clause-ok : goal.returns-in-feed-clause-ok
returns-in-feed-clause-ok c =
    NamesMode-word c.args.words.now _ _ _ c.in-feed.len_at_least c.in-feed.len_below c.in-feed.is-feed feed

pub returns-in-Some-clause-ok : goal.returns-in-Some-clause-ok
returns-in-Some-clause-ok c =
    NamesMode-type c.args.words.now _ _ c.in-Some.number c.in-type.len_at_least c.in-type.len_below c.in-type.is-type
    c.in-Some.ensures.some
