use Rattle.std.proofs.Common.{◌≡◌, drop}
use Rattle.ether_switch.specs.Vlans.{are_in_order}
use Rattle.ether_switch.proofs.vlan_config.parts_are_in_order.Given as goal

abbrev pub invariant-loop-vlan : goal.invariant-loop-vlan
invariant-loop-vlan l = are_in_order 0 l.fn.vlans ≡ are_in_order l.end (drop l.vlan-index l.fn.vlans)
