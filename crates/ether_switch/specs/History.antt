-- What a table goes through. The newest change is first.
use Rattle.std.specs.Prelude.{◌≡◌, ℕ, ◌+◌, List, [], ◌∷◌, ◌++◌, map, take, drop, Option, Some, None, Result, Ok, Err, Bool, true, false, not, ◌&&◌, ◌||◌, nat_eq, nat_le, if◌then◌else◌, MatchBool}
use Rattle.ether_switch.specs.declared.arrival.Arrived.{Arrived}
use Rattle.ether_switch.specs.declared.arrival.Discarded.{Discarded}
use Rattle.ether_switch.specs.declared.forgetting.Forgotten.{Forgotten}
use Rattle.ether_switch.specs.declared.stations.Sighting.{Sighting}
use Rattle.ether_switch.specs.declared.stations.StationBucket.{StationBucket}
use Rattle.ether_switch.specs.declared.vlan_config.VlanConfig.{VlanConfig}
use Rattle.ether_switch.specs.Arrivals.{Front}
use Rattle.ether_switch.specs.Relaying.{Event, arrival, arrival_vlan, refused_in, teaches, sighting, after}
use Rattle.ether_switch.specs.Stations.{without}
use Rattle.ether_switch.specs.Vlans.{row_of}

-- a change: a frame comes in; or stations are forgotten, in so many buckets from an index on
pub data Change : Type 0 where
  Came : Event → Change
  Forgot : (first count : ℕ) → Forgotten → Change

-- the table without the stations that are forgotten
abbrev pub forgotten_in : (first count : ℕ) → Forgotten → List StationBucket → List StationBucket
forgotten_in first count which table =
    take first table
    ++ (map (without which) (take count (drop first table)) ++ drop count (drop first table))

abbrev pub changed : Change → List StationBucket → List StationBucket
changed (Came v) table = after v table
changed (Forgot first count which) table = forgotten_in first count which table

-- the table after all of them
abbrev pub table_after : List Change → List StationBucket → List StationBucket
table_after [] table = table
table_after (c ∷ earlier) table = changed c (table_after earlier table)

-- ---- the changes of one VLAN

-- whether m buckets from one index on, and n from another one on, have none in common
abbrev pub are_apart : (first m other n : ℕ) → Bool
are_apart first m other n =
    nat_eq m 0 || (nat_eq n 0 || (nat_le (first + m) other || nat_le (other + n) first))

-- whether a VLAN is this one
abbrev pub is_vlan : (vid : ℕ) → Option ℕ → Bool
is_vlan vid None = false
is_vlan vid (Some other) = nat_eq other vid

-- Whether a change is one of a VLAN with such a part of the table: a frame of the VLAN, or stations in its part are
-- forgotten.
abbrev pub is_in : (vid : ℕ) → VlanConfig → Change → Bool
is_in vid vlan (Came v) = is_vlan vid (arrival_vlan v)
is_in vid vlan (Forgot first count which) = not (are_apart vlan.first_bucket vlan.buckets first count)

-- The VLAN has this part of the table, and each other VLAN has another one.
abbrev pub HasOwnPart : (vid : ℕ) → VlanConfig → List VlanConfig → Type 0
HasOwnPart vid vlan vlans =
    (other : ℕ) → MatchBool (nat_eq other vid)
    (((row_of vlans other).first_bucket ≡ vlan.first_bucket) × ((row_of vlans other).buckets ≡ vlan.buckets))
    (are_apart vlan.first_bucket vlan.buckets (row_of vlans other).first_bucket (row_of vlans other).buckets ≡ true)

-- .. at each frame
abbrev pub KeepsPart : (vid : ℕ) → VlanConfig → Change → Type 0
KeepsPart vid vlan (Came v) = HasOwnPart vid vlan v.settings.vlans
KeepsPart vid vlan (Forgot first count which) = Unit {0}

abbrev pub KeepPart : (vid : ℕ) → VlanConfig → List Change → Type 0
KeepPart vid vlan [] = Unit {0}
KeepPart vid vlan (c ∷ earlier) = KeepsPart vid vlan c × KeepPart vid vlan earlier

-- ---- what was seen in a VLAN

-- the sightings after a further frame: its source, if it teaches the bridge
abbrev pub seen_with : (vid : ℕ) → Event → Result (Front × Arrived) Discarded → List Sighting → List Sighting
seen_with vid v (Err reason) earlier = earlier
seen_with vid v (Ok a) earlier =
    if nat_eq a.1.vlan vid && teaches v.settings v.from (refused_in v a.0 a.1)
    then sighting v.now v.from a.1 ∷ earlier else earlier

abbrev pub seen : (vid : ℕ) → List Change → List Sighting
seen vid [] = []
seen vid (Came v ∷ earlier) = seen_with vid v (arrival v) (seen vid earlier)
seen vid (Forgot first count which ∷ earlier) = seen vid earlier

-- The bridge has this key at each frame of a VLAN.
abbrev pub HasKey : (key : List ℕ) (vid : ℕ) → Change → Type 0
HasKey key vid (Came v) = arrival_vlan v ≡ Some vid → v.settings.key ≡ key
HasKey key vid (Forgot first count which) = Unit {0}

abbrev pub HaveKey : (key : List ℕ) (vid : ℕ) → List Change → Type 0
HaveKey key vid [] = Unit {0}
HaveKey key vid (c ∷ earlier) = HasKey key vid c × HaveKey key vid earlier
