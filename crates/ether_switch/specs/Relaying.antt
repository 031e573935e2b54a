-- Where a bridge sends a frame (IEEE 802.1Q, 8.6 and 8.8), and what it learns from it.
use Rattle.std.specs.Prelude.{◌≡◌, ℕ, ◌/◌, ◌%◌, ◌^◌, List, find, Option, Some, None, option_map, is_none, Result, Ok, Err, Bool, true, false, not, ◌&&◌, ◌||◌, nat_eq, if◌then◌else◌}
use Rattle.etherparse.specs.Bytes.{number}
use Rattle.etherparse.specs.Header.{Header}
use Rattle.ether_switch.specs.declared.arrival.Arrived.{Arrived}
use Rattle.ether_switch.specs.declared.arrival.Discarded.{Discarded}
use Rattle.ether_switch.specs.declared.arrival.Discarded.TheVariants.{PortState}
use Rattle.ether_switch.specs.declared.bridge.Bridge.{Bridge}
use Rattle.ether_switch.specs.declared.bridge.StaticEntry.{StaticEntry}
use Rattle.ether_switch.specs.declared.bridge_kind.BridgeKind.{BridgeKind}
use Rattle.ether_switch.specs.declared.port.PortConfig.{PortConfig}
use Rattle.ether_switch.specs.declared.port.PortStates.{PortStates}
use Rattle.ether_switch.specs.declared.port_set.PortSet.{PortSet}
use Rattle.ether_switch.specs.declared.received.Received.{Received}
use Rattle.ether_switch.specs.declared.stations.Sighting.{Sighting}
use Rattle.ether_switch.specs.declared.stations.StationBucket.{StationBucket}
use Rattle.ether_switch.specs.declared.vlan_config.VlanConfig.{VlanConfig}
use Rattle.ether_switch.specs.BridgeKinds.{is_reserved}
use Rattle.ether_switch.specs.Arrivals.{Front, front_of, vlan_of, refusal, arrival_in}
use Rattle.ether_switch.specs.Ports.{has, IsSet}
use Rattle.ether_switch.specs.Stations.{learned, known_port}
use Rattle.ether_switch.specs.Vlans.{row_of}

-- the settings of a bridge, as its fields
pub record Settings : Type 0 where
  pub kind : BridgeKind
  pub ageing_time : ℕ
  pub key : List ℕ
  pub ports : PortStates
  pub vlans : List VlanConfig
  pub entries : List StaticEntry
  pub forwarded : ℕ

abbrev pub settings_of : Bridge → Settings
settings_of b = record {
  kind = b.kind;
  ageing_time = b.ageing_time;
  key = b.key;
  ports = b.ports.now;
  vlans = b.vlans.now;
  entries = b.static_entries.now;
  forwarded = b.forwarded;
}

-- a frame that came in: the time, the number and the configuration of the port, and its headers
pub record Event : Type 0 where
  pub settings : Settings
  pub now : ℕ
  pub from : ℕ
  pub port : PortConfig
  pub hs : List Header

-- what is returned for a frame: its VLAN, its priority, whether it is for the bridge itself, and the ports through
-- which it leaves
pub record Answer : Type 0 where
  pub kind : BridgeKind
  pub vlan : ℕ
  pub priority : ℕ
  pub drop_eligible : Bool
  pub reserved : Bool
  pub tagged : ℕ → Bool
  pub untagged : ℕ → Bool

-- ---- where a frame goes

-- whether frames to an address are for the bridge itself: it is reserved, and the bridge is not told to forward them
-- (IEEE 802.1Q, 8.6.3)
abbrev pub is_for_bridge : Settings → (address : ℕ) → Bool
is_for_bridge s address =
    is_reserved s.kind address && not (nat_eq (s.forwarded / 2 ^ (address % 16) % 2) 1)

-- the ports of the first entry for an address in a VLAN (IEEE 802.1Q, 8.8.1)
abbrev pub static_ports : List StaticEntry → (vid address : ℕ) → Option PortSet
static_ports entries vid address =
    option_map (λ e. e.ports) (find (λ e. nat_eq e.vid vid && nat_eq (number e.address) address) entries)

-- Whether frames to an address go to a port: by its static entry, if there is one; else those to a group go to all
-- ports, and so do those to a station that is not known. (No group is known.)
abbrev pub goes_to_known : Option ℕ → (to : ℕ) → Bool
goes_to_known None to = true
goes_to_known (Some port) to = nat_eq to port

abbrev pub goes_to : Option PortSet → (known : Option ℕ) → (to : ℕ) → Bool
goes_to (Some ports) known to = has ports to
goes_to None known to = goes_to_known known to

-- Whether frames of a VLAN from one port may leave by another: this one is a member of the VLAN and forwarding (IEEE
-- 802.1Q, 8.6.1 and 8.6.4), and not both are isolated.
abbrev pub may_leave : PortStates → VlanConfig → (from to : ℕ) → Bool
may_leave states vlan from to =
    has vlan.members to && has states.forwarding to
    && not (nat_eq to from) && not (has states.isolated from && has states.isolated to)

-- whether a copy of a frame from one port leaves by another
abbrev pub is_mirror : PortStates → (from to : ℕ) → Bool
is_mirror states from to = not (nat_eq to from) && has states.mirrors to

-- the answer for a frame that is passed on
abbrev pub relayed : Settings → (from : ℕ) → Arrived → (known : Option ℕ) → Answer
relayed s from a known =
    let vlan = row_of s.vlans a.vlan in
    let leaves : ℕ → Bool = λ to. may_leave s.ports vlan from to
    && goes_to (static_ports s.entries a.vlan a.destination) known to in
    record {
      kind = s.kind;
      vlan = a.vlan;
      priority = a.priority;
      drop_eligible = a.drop_eligible;
      reserved = false;
      tagged = λ to. is_mirror s.ports from to || (leaves to && not (has vlan.untagged to));
      untagged = λ to. leaves to && has vlan.untagged to && not (is_mirror s.ports from to);
    }

-- .. for one that is for the bridge itself
abbrev pub kept : Settings → Arrived → Answer
kept s a = record {
  kind = s.kind;
  vlan = a.vlan;
  priority = a.priority;
  drop_eligible = a.drop_eligible;
  reserved = true;
  tagged = λ to. false;
  untagged = λ to. false;
}

-- .. for one that the port refuses for this reason, if there is one, or because it is not forwarding
abbrev pub unless_refused : Settings → (from : ℕ) → Option Discarded → Answer → Result Answer Discarded
unless_refused s from (Some reason) answer = Err reason
unless_refused s from None answer = if has s.ports.forwarding from then Ok answer else Err PortState

abbrev pub answered : Settings → (from : ℕ) → Option Discarded → Arrived → (known : Option ℕ)
    → Result Answer Discarded
answered s from refused a known =
    if is_for_bridge s a.destination then Ok (kept s a) else unless_refused s from refused (relayed s from a known)

-- ---- what is learned

-- when and at which port a frame's source was seen
abbrev pub sighting : (now from : ℕ) → Arrived → Sighting
sighting now from a = record { address = a.source; time = now; port = from }

-- whether a frame teaches the bridge where its source is: the port does not refuse it, and is learning (IEEE 802.1Q,
-- 8.7)
abbrev pub teaches : Settings → (from : ℕ) → Option Discarded → Bool
teaches s from refused = is_none refused && has s.ports.learning from

-- the table after a frame
abbrev pub taught : Settings → (now from : ℕ) → Option Discarded → Arrived → List StationBucket → List StationBucket
taught s now from refused a table =
    if teaches s from refused
    then learned s.key s.ageing_time (row_of s.vlans a.vlan) (sighting now from a) table
    else table

-- ---- a frame

-- why a port refuses a frame, if it does
abbrev pub refused_in : Event → Front → Arrived → Option Discarded
refused_in v f a = refusal v.settings.kind v.port (has (row_of v.settings.vlans a.vlan).members v.from) f

-- what is read of a frame
abbrev pub with_front : Front → Result Arrived Discarded → Result (Front × Arrived) Discarded
with_front f (Err reason) = Err reason
with_front f (Ok a) = Ok (f, a)

abbrev pub arrival_by : PortConfig → Result Front Discarded → Result (Front × Arrived) Discarded
arrival_by port (Err reason) = Err reason
arrival_by port (Ok f) = with_front f (arrival_in port f (vlan_of port.pvid f))

abbrev pub arrival : Event → Result (Front × Arrived) Discarded
arrival v = arrival_by v.port (front_of v.settings.kind v.hs)

-- the VLAN of a frame, if it has one
abbrev pub vlan_in : Result (Front × Arrived) Discarded → Option ℕ
vlan_in (Ok a) = Some a.1.vlan
vlan_in (Err reason) = None

abbrev pub arrival_vlan : Event → Option ℕ
arrival_vlan v = vlan_in (arrival v)

-- .. after one that was read so
abbrev pub after_arrival : Event → Result (Front × Arrived) Discarded → List StationBucket → List StationBucket
after_arrival v (Err reason) table = table
after_arrival v (Ok a) table = taught v.settings v.now v.from (refused_in v a.0 a.1) a.1 table

abbrev pub after : Event → List StationBucket → List StationBucket
after v table = after_arrival v (arrival v) table

-- what is returned for a frame, by the table after it
abbrev pub answer_arrival : Event → Result (Front × Arrived) Discarded → List StationBucket → Result Answer Discarded
answer_arrival v (Err reason) table = Err reason
answer_arrival v (Ok a) table =
    answered v.settings v.from (refused_in v a.0 a.1) a.1
    (known_port v.settings.key v.settings.ageing_time v.now (row_of v.settings.vlans a.1.vlan) a.1.destination table)

abbrev pub answer : Event → List StationBucket → Result Answer Discarded
answer v table = answer_arrival v (arrival v) (after v table)

-- ---- how it is returned

pub record IsAnswer (a : Answer) (r : Received) : Type 0 where
  pub kind : r.kind ≡ a.kind
  pub vlan : r.vlan ≡ a.vlan
  pub priority : r.priority ≡ a.priority
  pub drop_eligible : r.drop_eligible ≡ a.drop_eligible
  pub reserved : r.reserved ≡ a.reserved
  pub tagged : IsSet r.tagged a.tagged
  pub untagged : IsSet r.untagged a.untagged

abbrev pub Returns : Result Answer Discarded → Result Received Discarded → Type 0
Returns (Ok a) (Ok r) = IsAnswer a r
Returns (Err reason) (Err other) = other ≡ reason
Returns a r = ⊥
