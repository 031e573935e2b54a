use Rattle.std.proofs.Common.{refl, rules}
use Rattle.ether_packet.proofs.Fronts.{ethernet2_first, nothing_first}
use Rattle.ether_packet.proofs.front.ethernet_front.Goals as goal

pub returns-in-Ok-clause-link : goal.returns-in-Ok-clause-link
returns-in-Ok-clause-link c hs e walk = search (rules, ethernet2_first)

pub returns-in-Ok-clause-ether_type : goal.returns-in-Ok-clause-ether_type
returns-in-Ok-clause-ether_type c hs e walk = search (rules, ethernet2_first)

pub returns-in-Err-clause-link : goal.returns-in-Err-clause-link
returns-in-Err-clause-link c hs e walk =
    rw (nothing_first c.args.frame.now hs e _ c.in-Err.ensures.refused.row walk) refl

pub returns-in-Err-clause-ether_type : goal.returns-in-Err-clause-ether_type
returns-in-Err-clause-ether_type c hs e walk =
    rw (nothing_first c.args.frame.now hs e _ c.in-Err.ensures.refused.row walk) refl

pub returns-in-Err-clause-vlan : goal.returns-in-Err-clause-vlan
returns-in-Err-clause-vlan c hs e walk =
    rw (nothing_first c.args.frame.now hs e _ c.in-Err.ensures.refused.row walk) refl
