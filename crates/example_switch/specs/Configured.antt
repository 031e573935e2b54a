-- The configuration of a switch with these ports.
use Rattle.std.specs.Prelude.{◌≡◌, ℕ, ◌-◌, ◌*◌, List, Option, Some, None, slice_get, Bool, true, false, not, ◌&&◌, nat_eq}
use Rattle.ether_switch.specs.declared.port.AcceptableFrames.TheVariants.{OnlyVlanTagged, OnlyUntaggedAndPriorityTagged}
use Rattle.ether_switch.specs.declared.port.PortConfig.{PortConfig}
use Rattle.ether_switch.specs.declared.vlan_config.VlanConfig.{VlanConfig}
use Rattle.ether_switch.specs.Ports.{IsSet}
use Rattle.example_switch.specs.declared.port.Port.{Port}
use Rattle.example_switch.specs.declared.port.Port.TheVariants.{Access, Trunk}

-- Which frames a port accepts, and the VLAN of those without one.
abbrev pub config_of : Port → PortConfig
config_of (Access vlan) = record {
  pvid = vlan;
  frame_types = OnlyUntaggedAndPriorityTagged;
  refuses_second_tag = true;
  ingress_filtering = true;
  default_priority = 0;
}
config_of Trunk = record {
  pvid = 1;
  frame_types = OnlyVlanTagged;
  refuses_second_tag = true;
  ingress_filtering = true;
  default_priority = 0;
}

-- whether frames of a VLAN leave by a port
abbrev pub carries : (vid : ℕ) → Port → Bool
carries vid (Access vlan) = nat_eq vlan vid
carries vid Trunk = true

-- .. without a tag
abbrev pub sends_untagged : (vid : ℕ) → Port → Bool
sends_untagged vid (Access vlan) = nat_eq vlan vid
sends_untagged vid Trunk = false

abbrev pub passes : (Port → Bool) → Option Port → Bool
passes test None = false
passes test (Some port) = test port

-- whether the port with this number passes; ports are numbered from 1 on
abbrev pub is_one : (Port → Bool) → List Port → (number : ℕ) → Bool
is_one test ports number = not (nat_eq number 0) && passes test (slice_get ports (number - 1))

-- The row of a VLAN. Each VLAN has 16 buckets of its own.
pub record IsRow (ports : List Port) (vid : ℕ) (row : VlanConfig) : Type 0 where
  pub members : IsSet row.members (is_one (carries vid) ports)
  pub untagged : IsSet row.untagged (is_one (sends_untagged vid) ports)
  pub first : row.first_bucket ≡ (vid - 1) * 16
  pub buckets : row.buckets ≡ 16
