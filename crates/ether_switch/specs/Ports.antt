-- Sets of ports, as the ports that they have.
use Rattle.std.specs.Prelude.{◌≡◌, ◌<◌, ℕ, ◌/◌, ◌%◌, ◌^◌, Bool, nat_eq, slice_index}
use Rattle.ether_switch.specs.declared.port_set.PortSet.{PortSet}

-- whether a set has a port
abbrev pub has : PortSet → (port : ℕ) → Bool
has set port = nat_eq (slice_index set.words (port / 64) / 2 ^ (port % 64) % 2) 1

-- a set that has the ports for which this holds
abbrev pub IsSet : PortSet → (ℕ → Bool) → Type 0
IsSet set holds = (port : ℕ) → port < 256 → has set port ≡ holds port
