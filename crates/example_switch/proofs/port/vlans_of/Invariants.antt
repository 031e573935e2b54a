use Rattle.std.proofs.Common.{◌≡◌, ℕ, ◌<◌, ◌≤◌, length, get_or}
use Rattle.ether_switch.specs.Vlans.{no_vlan}
use Rattle.example_switch.specs.Configured.{IsRow}
use Rattle.example_switch.proofs.port.vlans_of.Given as goal

abbrev pub invariant-loop-vid : goal.invariant-loop-vid
invariant-loop-vid l =
    (length l.rows.items ≡ l.vid)
    × ((vid : ℕ) → 1 ≤ vid → vid < l.vid → IsRow l.fn.ports vid (get_or l.rows.items vid no_vlan))
