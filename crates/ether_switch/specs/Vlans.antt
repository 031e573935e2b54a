-- The VLANs of a bridge.
use Rattle.std.specs.Prelude.{ℕ, ◌+◌, List, [], ◌∷◌, replicate, slice_index_or, Bool, true, ◌&&◌, nat_eq, nat_le, if◌then◌else◌}
use Rattle.ether_switch.specs.declared.port_set.PortSet.{PortSet}
use Rattle.ether_switch.specs.declared.vlan_config.VlanConfig.{VlanConfig}

-- the empty set
abbrev pub no_ports : PortSet
no_ports = record { words = replicate 4 0 }

-- a VLAN without ports
abbrev pub no_vlan : VlanConfig
no_vlan = record { members = no_ports; untagged = no_ports; first_bucket = 0; buckets = 0 }

-- the configuration of a VLAN
abbrev pub row_of : List VlanConfig → (vid : ℕ) → VlanConfig
row_of vlans vid = slice_index_or vlans vid no_vlan

-- Whether the part of each VLAN that has one begins at the end of those before it, or later; and the first one at
-- `end`, or later.
abbrev pub are_in_order : (end : ℕ) → List VlanConfig → Bool
are_in_order end [] = true
are_in_order end (vlan ∷ vlans) =
    if nat_eq vlan.buckets 0 then are_in_order end vlans
    else (nat_le end vlan.first_bucket && are_in_order (vlan.first_bucket + vlan.buckets) vlans)
