use Rattle.std.proofs.Common.{◌≡◌, ◌-◌, ◌*◌}
use Rattle.ether_switch.specs.Ports.{IsSet}
use Rattle.example_switch.specs.Configured.{carries, sends_untagged}
use Rattle.example_switch.proofs.Numbered.{so_far}
use Rattle.example_switch.proofs.port.vlan_of.Given as goal

abbrev pub invariant-loop-i : goal.invariant-loop-i
invariant-loop-i l =
    IsSet l.vlan.members (so_far (carries l.fn.vid) l.fn.ports l.i)
    × IsSet l.vlan.untagged (so_far (sends_untagged l.fn.vid) l.fn.ports l.i)
    × (l.vlan.first_bucket ≡ (l.fn.vid - 1) * 16) × (l.vlan.buckets ≡ 16)
