use Rattle.ether_packet.specs.ReplacingLink.{no_link}
use Rattle.ether_packet.proofs.Links.{takes_link, refuses_link}
use Rattle.ether_packet.proofs.replacing.require_link.Goals as goal

pub returns-in_default-clause-refused : goal.returns-in_default-clause-refused
returns-in_default-clause-refused c limit hs e walk = no_link (c.link_of.ensures.none c.in_default.is limit hs e walk)

pub returns-in-None-clause-ok : goal.returns-in-None-clause-ok
returns-in-None-clause-ok c limit hs e walk =
    takes_link c.args.header.now c.in-Some.old hs (c.link_difference.ensures.none c.in-None.is)
    (c.in-Some.ensures.found limit hs e walk)

pub returns-in-Some-link_difference-clause-refused : goal.returns-in-Some-link_difference-clause-refused
returns-in-Some-link_difference-clause-refused c limit hs e walk =
    refuses_link c.args.header.now c.in-Some.old hs c.in-Some-link_difference.difference
    c.in-Some-link_difference.ensures.some (c.in-Some.ensures.found limit hs e walk)
