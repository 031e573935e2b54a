-- A bridge with VLANs, for calls from C.
use Rattle.std.specs.Prelude.{◌≡◌, ℕ, List, drop, Option, Some, None, option_map, IfSome, IfNone, is_some, Result, Ok, Err, IfOk, is_ok, Bool, not, ◌&&◌, nat_eq, nat_le, if◌then◌else◌}
use Rattle.etherparse.specs.Bytes.{bit}
use Rattle.etherparse.specs.Header.{Header}
use Rattle.ether_peel.specs.Grammar.Stack.{Ending, Walk}
use Rattle.ether_peel.specs.Walker.Start.{start_of}
use Rattle.ether_peel.specs.declared.start.Start.TheVariants as starts
use Rattle.ether_switch.specs.declared.arrival.Discarded.{Discarded}
use Rattle.ether_switch.specs.declared.arrival.Discarded.TheVariants as reasons
use Rattle.ether_switch.specs.declared.bridge.Bridge.{Bridge}
use Rattle.ether_switch.specs.declared.bridge_kind.BridgeKind.{BridgeKind}
use Rattle.ether_switch.specs.declared.bridge_kind.BridgeKind.TheVariants.{Customer, Provider}
use Rattle.ether_switch.specs.declared.forgetting.Forgotten.{Forgotten}
use Rattle.ether_switch.specs.declared.forgetting.Forgotten.TheVariants as forgotten
use Rattle.ether_switch.specs.declared.port.AcceptableFrames.{AcceptableFrames}
use Rattle.ether_switch.specs.declared.port.AcceptableFrames.TheVariants.{All, OnlyVlanTagged, OnlyUntaggedAndPriorityTagged, OnlyUntagged}
use Rattle.ether_switch.specs.declared.port.PortConfig.{PortConfig}
use Rattle.ether_switch.specs.declared.received.Received.{Received}
use Rattle.ether_switch.specs.declared.stations.Sighting.{Sighting}
use Rattle.ether_switch.specs.declared.stations.StationBucket.{StationBucket}
use Rattle.ether_switch.specs.Arrivals.{Front, front_of}
use Rattle.ether_switch.specs.Relaying.{Event, after, answer, Returns}
use Rattle.ether_switch.specs.Vlans.{no_ports}
use Rattle.ether_c.specs.declared.ether_bridge.EtherBridge.{EtherBridge}
use Rattle.ether_c.specs.declared.ether_port.EtherPort.{EtherPort}
use Rattle.ether_c.specs.declared.ether_received.EtherReceived.{EtherReceived}
use Rattle.ether_c.specs.Numbers.{done}

-- ---- numbers, in the order of the enumerations of c/etherpeel.h

abbrev pub kind_numbered : ℕ → Option BridgeKind
kind_numbered n = if nat_eq n 1 then Some Customer else (if nat_eq n 2 then Some Provider else None)

abbrev pub kind_number : BridgeKind → ℕ
kind_number Customer = 1
kind_number Provider = 2

abbrev pub frame_types_numbered : ℕ → Option AcceptableFrames
frame_types_numbered n =
    if nat_eq n 0 then Some All
    else (if nat_eq n 1 then Some OnlyVlanTagged
    else (if nat_eq n 2 then Some OnlyUntaggedAndPriorityTagged
    else (if nat_eq n 3 then Some OnlyUntagged else None)))

-- why a frame is discarded; 0 if it is not
abbrev pub reason_number : Discarded → ℕ
reason_number reasons.NoHeader = 1
reason_number reasons.CutTag = 2
reason_number reasons.ReservedIdentifier = 3
reason_number reasons.Source = 4
reason_number reasons.FrameType = 5
reason_number reasons.SecondTag = 6
reason_number reasons.NotAMember = 7
reason_number reasons.PortState = 8

-- which stations are forgotten
abbrev pub forgotten_numbered : (what port : ℕ) → (address : List ℕ) → Option Forgotten
forgotten_numbered what port address =
    if nat_eq what 0 then Some forgotten.All
    else (if nat_eq what 1 then Some (forgotten.Port port)
    else (if nat_eq what 2 then Some (forgotten.Station address) else None))

-- the VLAN with this identifier (IEEE 802.1Q, table 9-2)
abbrev pub is_vlan : (vid : ℕ) → Bool
is_vlan vid = nat_le 1 vid && nat_le vid 4094

abbrev pub vlan_numbered : (vid : ℕ) → Option ℕ
vlan_numbered vid = if is_vlan vid then Some vid else None

-- ---- bridges

abbrev pub bridge_with : EtherBridge → BridgeKind → Bridge
bridge_with b kind = record {
  kind = kind;
  ageing_time = b.ageing_time;
  key = b.key;
  ports = b.ports;
  vlans = b.vlans;
  static_entries = b.static_entries;
  forwarded = b.forwarded;
}

-- the bridge that was passed, if its kind has a number
abbrev pub bridge_of : EtherBridge → Option Bridge
bridge_of b = option_map (bridge_with b) (kind_numbered b.kind)

-- ---- ports

abbrev pub config_with : EtherPort → AcceptableFrames → PortConfig
config_with p types = record {
  pvid = p.pvid;
  frame_types = types;
  refuses_second_tag = not (nat_eq p.refuses_second_tag 0);
  ingress_filtering = not (nat_eq p.ingress_filtering 0);
  default_priority = p.default_priority;
}

-- the configuration of a port, if its numbers fit their fields
abbrev pub config_of : EtherPort → Option PortConfig
config_of p =
    if is_vlan p.pvid && nat_le p.default_priority 7
    then option_map (config_with p) (frame_types_numbered p.frame_types) else None

-- ---- frames that were received

-- all numbers of a discarded frame are 0, except for the reason
abbrev pub c_answer : Result Received Discarded → EtherReceived
c_answer (Err reason) = record {
  tagged = no_ports;
  untagged = no_ports;
  vid = 0;
  kind = 0;
  priority = 0;
  drop_eligible = 0;
  reserved = 0;
  discarded = reason_number reason;
}
c_answer (Ok r) = record {
  tagged = r.tagged;
  untagged = r.untagged;
  vid = r.vlan;
  kind = kind_number r.kind;
  priority = r.priority;
  drop_eligible = bit r.drop_eligible;
  reserved = bit r.reserved;
  discarded = 0;
}

abbrev pub received_with : EtherReceived → BridgeKind → Received
received_with c kind = record {
  kind = kind;
  vlan = c.vid;
  priority = c.priority;
  drop_eligible = not (nat_eq c.drop_eligible 0);
  reserved = not (nat_eq c.reserved 0);
  tagged = c.tagged;
  untagged = c.untagged;
}

-- the frame that was passed, if it is not discarded and its numbers fit their fields
abbrev pub received_of : EtherReceived → Option Received
received_of c =
    if nat_eq c.discarded 0 && is_vlan c.vid && nat_le c.priority 7
    then option_map (received_with c) (kind_numbered c.kind) else None

-- ---- calls

-- A frame came in by a port: the table learns from it, and what is returned for it is written as numbers, which stand
-- for it.
pub record GivesReceived (event : Event) (old new : List StationBucket) (received : EtherReceived) (status : ℕ) : Type
    0 where
  pub found : Result Received Discarded
  pub answered : Returns (answer event old) found
  pub learned : new ≡ after event old
  pub given : received ≡ c_answer found
  pub read_back : IfOk found (λ r. received_of received ≡ Some r)
  pub status_is : status ≡ done

abbrev pub stays : ℕ
stays = 21

-- The frame after four bytes of the buffer is made ready to leave in a form; or it is too short for its header or its
-- tag.
pub record GivesSent (kind : BridgeKind)
    (Leaves : Result Front Discarded → (frame : List ℕ) (hs : List Header) (e : Ending) (sent : List ℕ) → Type 0)
    (old new : List ℕ) (at_old at_new status : ℕ) : Type 0 where
  pub sent : Option ℕ
  pub leaves : IfSome sent (λ at. (hs : List Header) (e : Ending)
      → Walk (start_of starts.Ethernet2) (drop 4 old) hs e
      → Leaves (front_of kind hs) (drop 4 old) hs e (drop at new))
  pub goes : (hs : List Header) (e : Ending)
      → Walk (start_of starts.Ethernet2) (drop 4 old) hs e
      → is_some sent ≡ is_ok (front_of kind hs)
  pub kept : IfNone sent ((new ≡ old) × (at_new ≡ at_old))
  pub given : IfSome sent (λ at. at_new ≡ at)
  pub status_is : status ≡ (if is_some sent then done else stays)

-- the sighting of a station is written, if there is one
abbrev pub GivesSighting : Option Sighting → (old new : Sighting) (status : ℕ) → Type 0
GivesSighting (Some s) old new status = (new ≡ s) × (status ≡ done)
GivesSighting None old new status = (new ≡ old) × (status ≡ stays)
