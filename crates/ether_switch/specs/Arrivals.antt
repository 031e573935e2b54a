-- What a bridge reads of a frame that comes in, and why a port refuses it.
use Rattle.std.specs.Prelude.{ℕ, ◌/◌, ◌%◌, ◌^◌, List, [], ◌∷◌, Option, Some, None, option_map, Result, Ok, Err, Bool, true, false, not, ◌&&◌, nat_eq, if◌then◌else◌}
use Rattle.etherparse.specs.Ethernet2.{Ethernet2Value, ethernet2_view}
use Rattle.etherparse.specs.Header.{Header}
use Rattle.etherparse.specs.Vlan.{VlanValue, vlan_view}
use Rattle.ether_packet.specs.Front.{first_ethernet2, outer_tag}
use Rattle.ether_packet.specs.declared.front.EthernetFront.{EthernetFront}
use Rattle.ether_switch.specs.declared.arrival.Arrived.{Arrived}
use Rattle.ether_switch.specs.declared.arrival.Discarded.{Discarded}
use Rattle.ether_switch.specs.declared.arrival.Discarded.TheVariants.{NoHeader, CutTag, ReservedIdentifier, Source, FrameType, SecondTag, NotAMember}
use Rattle.ether_switch.specs.declared.arrival.Tagging.{Tagging}
use Rattle.ether_switch.specs.declared.arrival.Tagging.TheVariants.{Untagged, PriorityTagged, VlanTagged}
use Rattle.ether_switch.specs.declared.bridge_kind.BridgeKind.{BridgeKind}
use Rattle.ether_switch.specs.declared.port.AcceptableFrames.{AcceptableFrames}
use Rattle.ether_switch.specs.declared.port.AcceptableFrames.TheVariants.{All, OnlyVlanTagged, OnlyUntaggedAndPriorityTagged, OnlyUntagged}
use Rattle.ether_switch.specs.declared.port.PortConfig.{PortConfig}
use Rattle.ether_switch.specs.BridgeKinds.{tpid_of}

-- the header of a frame, and the tag after it if that is of the bridge's kind
pub record Front : Type 0 where
  pub link : Ethernet2Value
  pub tag : Option VlanValue

-- the front of a frame whose header announces a tag
abbrev pub tagged_front : Ethernet2Value → Option VlanValue → Result Front Discarded
tagged_front e None = Err CutTag
tagged_front e (Some tag) = Ok (record { link = e; tag = Some tag })

-- .. by its header, and a tag directly after it
abbrev pub front_in : BridgeKind → Option Ethernet2Value → Option VlanValue → Result Front Discarded
front_in kind None tag = Err NoHeader
front_in kind (Some e) tag =
    if nat_eq e.ether_type (tpid_of kind) then tagged_front e tag else Ok (record { link = e; tag = None })

-- the front of a frame with these headers
abbrev pub front_of : BridgeKind → List Header → Result Front Discarded
front_of kind hs = front_in kind (first_ethernet2 hs) (outer_tag hs)

-- how a frame names its VLAN (IEEE 802.1Q, 3)
abbrev pub tagging_by : Option VlanValue → Tagging
tagging_by None = Untagged
tagging_by (Some tag) = if nat_eq tag.vid 0 then PriorityTagged else VlanTagged

abbrev pub tagging_of : Front → Tagging
tagging_of f = tagging_by f.tag

-- whether a port accepts such frames (IEEE 802.1Q, 6.9)
abbrev pub admits : AcceptableFrames → Tagging → Bool
admits All t = true
admits OnlyVlanTagged VlanTagged = true
admits OnlyVlanTagged t = false
admits OnlyUntaggedAndPriorityTagged VlanTagged = false
admits OnlyUntaggedAndPriorityTagged t = true
admits OnlyUntagged Untagged = true
admits OnlyUntagged t = false

-- the VLAN of the tag, or else that of the port (IEEE 802.1Q, 6.9); 4095 is not a VLAN (IEEE 802.1Q, table 9-2)
abbrev pub vlan_by : (pvid : ℕ) → Option VlanValue → Option ℕ
vlan_by pvid None = Some pvid
vlan_by pvid (Some tag) =
    if nat_eq tag.vid 0 then Some pvid else (if nat_eq tag.vid 4095 then None else Some tag.vid)

abbrev pub vlan_of : (pvid : ℕ) → Front → Option ℕ
vlan_of pvid f = vlan_by pvid f.tag

-- the priority in the tag, or else that of the port
abbrev pub priority_by : (default_priority : ℕ) → Option VlanValue → ℕ
priority_by p None = p
priority_by p (Some tag) = tag.pcp

abbrev pub priority_of : (default_priority : ℕ) → Front → ℕ
priority_of p f = priority_by p f.tag

-- whether the tag says that the frame may be dropped first
abbrev pub drop_eligible_by : Option VlanValue → Bool
drop_eligible_by None = false
drop_eligible_by (Some tag) = nat_eq tag.dei 1

abbrev pub is_drop_eligible : Front → Bool
is_drop_eligible f = drop_eligible_by f.tag

-- whether the address is a group address: the lowest bit of its first byte is 1 (IEEE 802.3, 3.2.3)
abbrev pub is_group : (address : ℕ) → Bool
is_group address = nat_eq (address / 2 ^ 40 % 2) 1

-- whether the address is that of a single station
abbrev pub is_station : (address : ℕ) → Bool
is_station address = not (is_group address) && not (nat_eq address 0)

-- the first reason that applies
abbrev pub first_reason : List (Bool × Discarded) → Option Discarded
first_reason [] = None
first_reason (row ∷ rows) = if row.0 then Some row.1 else first_reason rows

-- whether the tag is followed by another one of the bridge's kind
abbrev pub second_tag_by : BridgeKind → Option VlanValue → Bool
second_tag_by kind None = false
second_tag_by kind (Some tag) = nat_eq tag.ether_type (tpid_of kind)

abbrev pub has_second_tag : BridgeKind → Front → Bool
has_second_tag kind f = second_tag_by kind f.tag

-- why a port refuses a frame, if it does (IEEE 802.1Q, 6.9 and 8.6.2)
abbrev pub refusal : BridgeKind → PortConfig → (is_member : Bool) → Front → Option Discarded
refusal kind port is_member f = first_reason (
    (not (admits port.frame_types (tagging_of f)), FrameType) ∷
    (port.refuses_second_tag && has_second_tag kind f, SecondTag) ∷
    (port.ingress_filtering && not is_member, NotAMember) ∷
    [])

-- what is read of a frame of a VLAN
abbrev pub arrived : PortConfig → Front → (vid : ℕ) → Arrived
arrived port f vid = record {
  vlan = vid;
  priority = priority_of port.default_priority f;
  drop_eligible = is_drop_eligible f;
  source = f.link.source;
  destination = f.link.destination;
}

abbrev pub arrival_in : PortConfig → Front → Option ℕ → Result Arrived Discarded
arrival_in port f None = Err ReservedIdentifier
arrival_in port f (Some vid) = if is_station f.link.source then Ok (arrived port f vid) else Err Source

-- ---- how it is read

abbrev pub front_view : EthernetFront → Front
front_view f = record { link = ethernet2_view f.link; tag = option_map vlan_view f.vlan }

abbrev pub read_as : Result EthernetFront Discarded → Result Front Discarded
read_as (Ok f) = Ok (front_view f)
read_as (Err reason) = Err reason
