use Rattle.ether_filter.proofs.LeastTypes.{never_open}
use Rattle.ether_filter.proofs.Prospects.{vlan_is_fixed}
use Rattle.etherparse.specs.Kind as kinds
use Rattle.ether_filter.proofs.least.of_vlan.Goals as goal

pub returns-then-room-lt4 : goal.returns-then-room-lt4
returns-then-room-lt4 c field packet hs ok o a u =
    absurd (never_open c.args.primitive packet hs kinds.Vlan c.args.known.now c.args.room 4 vlan_is_fixed
    c.if-room-lt4.true o u)

pub of_vlan_open-requires-clause-possible : goal.of_vlan_open-requires-clause-possible
of_vlan_open-requires-clause-possible c = (c.own_of-own.result, c.own_of-own.ensures, c.if-own.true)
