-- The laws of a bridge, and of bridges that are joined.
use Rattle.std.specs.Prelude.{◌≡◌, ℕ, ◌+◌, ◌-◌, ◌<◌, ◌≤◌, List, [], ◌∷◌, ◌++◌, map, replicate, take, drop, filter, find, slice_index_or, Some, is_some, IsSomeAnd, Result, Ok, Err, true, false, if◌then◌else◌, MatchBool, ◌⊎◌}
use Rattle.etherparse.specs.Bytes.{IsBytes}
use Rattle.etherparse.specs.Header.{Header}
use Rattle.ether_peel.specs.Grammar.Stack.{Ending, Walk}
use Rattle.ether_peel.specs.Walker.Start.{start_of}
use Rattle.ether_peel.specs.declared.start.Start.TheVariants as starts
use Rattle.ether_packet.specs.Front.{outer_tag}
use Rattle.ether_switch.specs.declared.arrival.Discarded.{Discarded}
use Rattle.ether_switch.specs.declared.port.AcceptableFrames.TheVariants.{OnlyUntagged}
use Rattle.ether_switch.specs.declared.port.PortConfig.{PortConfig}
use Rattle.ether_switch.specs.declared.received.Received.{Received}
use Rattle.ether_switch.specs.declared.stations.Sighting.{Sighting}
use Rattle.ether_switch.specs.declared.stations.StationBucket.{StationBucket}
use Rattle.ether_switch.specs.declared.vlan_config.VlanConfig.{VlanConfig}
use Rattle.ether_switch.specs.Arrivals.{Front, front_of}
use Rattle.ether_switch.specs.declared.forgetting.Forgotten.{Forgotten}
use Rattle.ether_switch.specs.History.{Change, Came, table_after, is_in, HasOwnPart, KeepPart, HaveKey, seen}
use Rattle.ether_switch.specs.Leaving.{LeavesTagged, LeavesUntagged}
use Rattle.ether_switch.specs.Ports.{has}
use Rattle.ether_switch.specs.Relaying.{Event, arrival_vlan, answer, Returns}
use Rattle.ether_switch.specs.Stations.{no_sighting, no_sightings, places, is_of, is_live, at_port, place_for, sighting_of, known_port, is_forgotten, without}
use Rattle.ether_switch.specs.Vlans.{row_of, are_in_order}

-- ---- a frame passes a bridge

-- How a frame leaves by a port: with the tag of its VLAN, or without one.
abbrev pub LeavesBy : Received → (to : ℕ) → Result Front Discarded → (frame : List ℕ) (hs : List Header) (e : Ending)
    (sent : List ℕ) → Type 0
LeavesBy r to front frame hs e sent =
    ((has r.tagged to ≡ true) × LeavesTagged r front frame hs e sent)
    ⊎ ((has r.untagged to ≡ true) × LeavesUntagged front frame hs e sent)

-- A frame came in, and left by a port, whatever the table has.
pub record Passes (v : Event) (table : List StationBucket) (to : ℕ) (frame sent : List ℕ) : Type 0 where
  pub bytes : IsBytes frame
  pub ending : Ending
  pub walk : Walk (start_of starts.Ethernet2) frame v.hs ending
  pub received : Received
  pub returns : Returns (answer v table) (Ok received)
  pub is_port : to < 256
  pub leaves : LeavesBy received to (front_of v.settings.kind v.hs) frame v.hs ending sent

-- the configuration of a VLAN at the bridge of a frame
abbrev pub vlan_at : Event → (vid : ℕ) → VlanConfig
vlan_at v vid = row_of v.settings.vlans vid

-- A port of a VLAN sends a frame with these headers: the VLAN is in its untagged set, or the tag names it.
abbrev pub SendsIn : VlanConfig → (to vid : ℕ) → List Header → Type 0
SendsIn vlan to vid hs =
    (has vlan.members to ≡ true)
    × MatchBool (has vlan.untagged to) (Unit {0}) (IsSomeAnd (outer_tag hs) (λ tag. tag.vid ≡ vid))

-- No frame crosses VLANs: it leaves by ports of its VLAN, mirrors aside.
abbrev pub VlansAreIsolated : Type 0
VlansAreIsolated =
    (v : Event) (table : List StationBucket) (to : ℕ) (frame sent : List ℕ) (hs : List Header) (e : Ending)
    → (p : Passes v table to frame sent) → has v.settings.ports.mirrors to ≡ false
    → Walk (start_of starts.Ethernet2) sent hs e
    → SendsIn (vlan_at v p.received.vlan) to p.received.vlan hs

-- ---- tags

-- the number of bytes that the tag takes in a frame with this front, with the ether type that announces it
abbrev pub tag_len : Result Front Discarded → ℕ
tag_len (Ok f) = if is_some f.tag then 4 else 0
tag_len (Err reason) = 0

-- a frame without n bytes after its addresses
abbrev pub without_tag : (n : ℕ) → List ℕ → List ℕ
without_tag n frame = take 12 frame ++ drop (12 + n) frame

-- A frame leaves as it came in, except for the tag.
pub record OnlyTagsChange : Type 0 where
  pub tagged : (r : Received) (frame sent : List ℕ) (hs : List Header) (e : Ending)
      → IsBytes frame → Walk (start_of starts.Ethernet2) frame hs e
      → LeavesTagged r (front_of r.kind hs) frame hs e sent
      → without_tag 4 sent ≡ without_tag (tag_len (front_of r.kind hs)) frame
  pub untagged : (r : Received) (frame sent : List ℕ) (hs : List Header) (e : Ending)
      → IsBytes frame → Walk (start_of starts.Ethernet2) frame hs e
      → LeavesUntagged (front_of r.kind hs) frame hs e sent
      → without_tag 0 sent ≡ without_tag (tag_len (front_of r.kind hs)) frame

-- ---- bridges that are joined

-- a bridge on the way of a frame: what comes in, what its table has, and the port through which the frame leaves
pub record Hop : Type 0 where
  pub event : Event
  pub table : List StationBucket
  pub to : ℕ

-- what leaves a bridge comes in at the next one
abbrev pub Travels : Hop → List Hop → (frame sent : List ℕ) → Type 0
Travels h [] frame sent = Passes h.event h.table h.to frame sent
Travels h (next ∷ later) frame sent =
    (between : List ℕ) × Passes h.event h.table h.to frame between × Travels next later between sent

abbrev pub last_hop : Hop → List Hop → Hop
last_hop h [] = h
last_hop h (next ∷ later) = last_hop next later

-- A link joins ports that fit: both bridges have the same kind of tags, and a VLAN that one of them sends without a tag
-- is the one that the other gives to frames without a tag.
pub record Fits (h next : Hop) : Type 0 where
  pub kind : next.event.settings.kind ≡ h.event.settings.kind
  pub native : (vid : ℕ) → has (vlan_at h.event vid).untagged h.to ≡ true → next.event.port.pvid ≡ vid

abbrev pub AllFit : Hop → List Hop → Type 0
AllFit h [] = Unit {0}
AllFit h (next ∷ later) = Fits h next × AllFit next later

-- A port takes no frame with a second tag of its bridge's kind, or none with a tag.
abbrev pub HasNoSecondTag : PortConfig → Type 0
HasNoSecondTag port = (port.refuses_second_tag ≡ true) ⊎ (port.frame_types ≡ OnlyUntagged)

-- Each VLAN is sent over each link with a tag.
abbrev pub AllTagged : Hop → List Hop → Type 0
AllTagged h [] = Unit {0}
AllTagged h (next ∷ later) = ((vid : ℕ) → has (vlan_at h.event vid).untagged h.to ≡ false) × AllTagged next later

-- No frame crosses VLANs on its way over any number of links that fit, if its first port takes no second tag, or if
-- each VLAN is sent over each link with a tag: it leaves only through ports of the VLAN in which it came in, mirrors
-- aside.
abbrev pub VlansAreIsolatedOverLinks : Type 0
VlansAreIsolatedOverLinks =
    (h : Hop) (later : List Hop) (frame sent : List ℕ)
    → 1 ≤ h.event.port.pvid → h.event.port.pvid ≤ 4094
    → AllFit h later → HasNoSecondTag h.event.port ⊎ AllTagged h later
    → Travels h later frame sent
    → let last = last_hop h later in
    has last.event.settings.ports.mirrors last.to ≡ false
    → IsSomeAnd (arrival_vlan h.event) (λ vid. has (vlan_at last.event vid).members last.to ≡ true)

-- ---- over time

-- If the parts of VLANs are in order, each VLAN has a part of its own.
abbrev pub PartsInOrderAreApart : Type 0
PartsInOrderAreApart =
    (vlans : List VlanConfig) (vid : ℕ) → are_in_order 0 vlans ≡ true → HasOwnPart vid (row_of vlans vid) vlans

-- What is answered in a VLAN depends on the frames of that VLAN alone: after any two histories that have the same
-- changes of the VLAN, the answer to the same frame of the VLAN is the same. The VLAN has a part of the table of its
-- own.
abbrev pub VlansDoNotInterfere : Type 0
VlansDoNotInterfere =
    (vid : ℕ) (vlan : VlanConfig) (one other : List Change) (table : List StationBucket) (v : Event)
    → KeepPart vid vlan (Came v ∷ one) → KeepPart vid vlan (Came v ∷ other)
    → filter (is_in vid vlan) one ≡ filter (is_in vid vlan) other
    → arrival_vlan v ≡ Some vid
    → answer v (table_after one table) ≡ answer v (table_after other table)

-- ---- stations

-- The sighting that a table has of a station is its last one in the VLAN, if the table had no sighting at first.
abbrev pub LastSightingsAreFound : Type 0
LastSightingsAreFound =
    (key : List ℕ) (vid : ℕ) (vlan : VlanConfig) (changes : List Change) (n address : ℕ) (s : Sighting)
    → KeepPart vid vlan changes → HaveKey key vid changes
    → sighting_of key vlan address (table_after changes (replicate n no_sightings)) ≡ Some s
    → find (is_of address) (seen vid changes) ≡ Some s

-- A station is known to be at the port at which it was seen last, at most the ageing time ago.
abbrev pub FramesFollowStations : Type 0
FramesFollowStations =
    (key : List ℕ) (vid : ℕ) (vlan : VlanConfig) (changes : List Change) (n address ageing_time now port : ℕ)
    → KeepPart vid vlan changes → HaveKey key vid changes
    → known_port key ageing_time now vlan address (table_after changes (replicate n no_sightings)) ≡ Some port
    → (s : Sighting) × (find (is_of address) (seen vid changes) ≡ Some s) × (s.port ≡ port)
    × (now - s.time ≤ ageing_time)

-- A sighting that has not aged leaves its place to that of another station only if it is at the same port, or if its
-- port has more sightings in the bucket than the port of the new one.
abbrev pub PortsAreFair : Type 0
PortsAreFair =
    (ageing_time : ℕ) (s : Sighting) (b : StationBucket)
    → let t = slice_index_or (places b) (place_for ageing_time s (places b)) no_sighting in
    is_live ageing_time s.time t ≡ true → is_of s.address t ≡ false
    → (t.port ≡ s.port) ⊎ (at_port s.port (places b) < at_port t.port (places b))

-- No frame goes by a sighting that was forgotten.
abbrev pub ForgottenAreNotFound : Type 0
ForgottenAreNotFound =
    (key : List ℕ) (vlan : VlanConfig) (address : ℕ) (which : Forgotten) (table : List StationBucket) (s : Sighting)
    → sighting_of key vlan address (map (without which) table) ≡ Some s → is_forgotten which s ≡ false
