use Rattle.ether_filter.proofs.possible.possible.Goals as goal

pub returns : goal.returns
returns c free packet hs ok unit told =
    c.possible_after.ensures free packet hs c.args.known.now c.args.room
    (record { bytes = ok; cut = c.requires.few; unit = unit; prospect = c.prospect_of.ensures })
    c.own_of-own.ensures told
