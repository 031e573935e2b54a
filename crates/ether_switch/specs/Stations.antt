-- The table of stations: what it holds after a sighting, and what it says of a station (IEEE 802.1Q, 8.7 and 8.8.3).
use Rattle.std.specs.Prelude.{ℕ, suc, ◌+◌, ◌-◌, ◌*◌, ◌/◌, ◌%◌, ◌^◌, List, [], ◌∷◌, ◌++◌, length, find, slice_set, slice_index_or, Option, Some, None, option_map, option_and_then, unwrap_or, Bool, true, not, ◌&&◌, ◌||◌, nat_eq, nat_le, nat_lt, if◌then◌else◌}
use Rattle.std.specs.List.{list_any, sum_by}
use Rattle.etherparse.specs.Bytes.{bit, number}
use Rattle.ether_switch.specs.declared.forgetting.Forgotten.{Forgotten}
use Rattle.ether_switch.specs.declared.forgetting.Forgotten.TheVariants.{All, Port, Station}
use Rattle.ether_switch.specs.declared.stations.Sighting.{Sighting}
use Rattle.ether_switch.specs.declared.stations.StationBucket.{StationBucket}
use Rattle.ether_switch.specs.declared.vlan_config.VlanConfig.{VlanConfig}
use Rattle.ether_switch.specs.Arrivals.{is_station}
use Rattle.ether_switch.specs.SipHash.{sip_hash}

-- ---- a bucket

-- a free place; its address is not one of a station
abbrev pub no_sighting : Sighting
no_sighting = record { address = 0; time = 0; port = 0 }

-- a bucket whose places are all free
abbrev pub no_sightings : StationBucket
no_sightings = record { first = no_sighting; second = no_sighting; third = no_sighting; fourth = no_sighting }

-- the places of a bucket
abbrev pub places : StationBucket → List Sighting
places b = b.first ∷ b.second ∷ b.third ∷ b.fourth ∷ []

-- the bucket with a sighting in the place of this number
abbrev pub with_place : (n : ℕ) → Sighting → StationBucket → StationBucket
with_place n s b =
    if nat_eq n 0 then record b { first = s }
    else (if nat_eq n 1 then record b { second = s }
    else (if nat_eq n 2 then record b { third = s }
    else record b { fourth = s }))

-- whether a sighting is one of a station
abbrev pub is_of : (address : ℕ) → Sighting → Bool
is_of address s = nat_eq s.address address

-- whether a sighting is one of a station, and at most the ageing time ago (IEEE 802.1Q, 8.8.3)
abbrev pub is_live : (ageing_time now : ℕ) → Sighting → Bool
is_live ageing_time now s = not (nat_eq s.address 0) && nat_le (now - s.time) ageing_time

abbrev pub is_free : (ageing_time now : ℕ) → Sighting → Bool
is_free ageing_time now s = not (is_live ageing_time now s)

-- how many of these sightings pass
abbrev pub count : (Sighting → Bool) → List Sighting → ℕ
count test l = sum_by (λ s. bit (test s)) l

-- how many of these sightings are at a port
abbrev pub at_port : (port : ℕ) → List Sighting → ℕ
at_port port l = count (λ s. nat_eq s.port port) l

-- Of these sightings, whether s leaves before t: there are more at its port, or as many, and it is older.
abbrev pub leaves_before : List Sighting → (s t : Sighting) → Bool
leaves_before l s t =
    nat_lt (at_port t.port l) (at_port s.port l)
    || (nat_eq (at_port t.port l) (at_port s.port l) && nat_lt s.time t.time)

-- the place m or n, whichever sighting leaves first
abbrev pub first_to_leave : (all bucket : List Sighting) → (m n : ℕ) → ℕ
first_to_leave all bucket m n =
    if leaves_before all (slice_index_or bucket n no_sighting) (slice_index_or bucket m no_sighting) then n else m

-- the place of the sighting that leaves for another one
abbrev pub leaving : Sighting → List Sighting → ℕ
leaving s bucket =
    let all = s ∷ bucket in
    first_to_leave all bucket (first_to_leave all bucket (first_to_leave all bucket 0 1) 2) 3

-- the number of the first place that passes
abbrev pub first_place : (Sighting → Bool) → List Sighting → Option ℕ
first_place test [] = None
first_place test (s ∷ bucket) = if test s then Some 0 else option_map suc (first_place test bucket)

-- The place for a sighting: that of its station; or else the first free one, where a sighting has aged, too; or else
-- that of the sighting that leaves.
abbrev pub place_for : (ageing_time : ℕ) → Sighting → List Sighting → ℕ
place_for ageing_time s bucket =
    unwrap_or (first_place (is_of s.address) bucket)
    (unwrap_or (first_place (is_free ageing_time s.time) bucket) (leaving s bucket))

-- ---- the buckets of a station

-- The two buckets, of n, for an address: one of the first half of them and one of the second half, by bits 0 to 31 and
-- by bits 32 to 63 of its hash. That is the hash of the six bytes of the address, the last one first (SipHash, 2.2,
-- step 2: their number is in the highest byte of the word).
abbrev pub hash_of : (key : List ℕ) → (address : ℕ) → ℕ
hash_of key address = sip_hash key (6 * 2 ^ 56 + address)

abbrev pub scaled : (n half : ℕ) → ℕ
scaled n half = half * (n - n / 2) / 2 ^ 32

abbrev pub first_bucket : (key : List ℕ) → VlanConfig → (address : ℕ) → ℕ
first_bucket key vlan address = vlan.first_bucket + scaled vlan.buckets (hash_of key address % 2 ^ 32)

abbrev pub second_bucket : (key : List ℕ) → VlanConfig → (address : ℕ) → ℕ
second_bucket key vlan address =
    vlan.first_bucket + (vlan.buckets / 2 + scaled vlan.buckets (hash_of key address / 2 ^ 32 % 2 ^ 32))

-- whether a table of n buckets has those of a VLAN
abbrev pub has_part : (n : ℕ) → VlanConfig → Bool
has_part n vlan = nat_lt 0 vlan.buckets && nat_le (vlan.first_bucket + vlan.buckets) n

-- the places of the bucket at an index
abbrev pub places_at : List StationBucket → ℕ → List Sighting
places_at table at = places (slice_index_or table at no_sightings)

-- ---- learning

-- Of two buckets the one for a sighting: the one in which its station is, or else the one with fewer live sightings.
abbrev pub bucket_for : (ageing_time : ℕ) → Sighting → (first second : List Sighting) → (m n : ℕ) → ℕ
bucket_for ageing_time s first second m n =
    if list_any (is_of s.address) first then m
    else (if list_any (is_of s.address) second then n
    else (if nat_lt (count (is_live ageing_time s.time) second) (count (is_live ageing_time s.time) first) then n
    else m))

-- the table with a sighting in the bucket at an index
abbrev pub put_at : (ageing_time : ℕ) → Sighting → List StationBucket → ℕ → List StationBucket
put_at ageing_time s table at =
    let bucket = slice_index_or table at no_sightings in
    slice_set table at (with_place (place_for ageing_time s (places bucket)) s bucket)

-- the table after a sighting of a station in a VLAN
abbrev pub learned : (key : List ℕ) → (ageing_time : ℕ) → VlanConfig → Sighting → List StationBucket
    → List StationBucket
learned key ageing_time vlan s table =
    let m = first_bucket key vlan s.address in
    let n = second_bucket key vlan s.address in
    if has_part (length table) vlan
    then put_at ageing_time s table (bucket_for ageing_time s (places_at table m) (places_at table n) m n)
    else table

-- ---- finding

-- the sighting of a station in a VLAN
abbrev pub sighting_of : (key : List ℕ) → VlanConfig → (address : ℕ) → List StationBucket → Option Sighting
sighting_of key vlan address table =
    if has_part (length table) vlan && is_station address
    then find (is_of address)
    (places_at table (first_bucket key vlan address) ++ places_at table (second_bucket key vlan address))
    else None

-- the port of a sighting, if that was at most the ageing time ago
abbrev pub port_at : (ageing_time now : ℕ) → Sighting → Option ℕ
port_at ageing_time now s = if nat_le (now - s.time) ageing_time then Some s.port else None

-- the port at which a station of a VLAN is known to be
abbrev pub known_port : (key : List ℕ) → (ageing_time now : ℕ) → VlanConfig → (address : ℕ) → List StationBucket
    → Option ℕ
known_port key ageing_time now vlan address table =
    option_and_then (port_at ageing_time now) (sighting_of key vlan address table)

-- ---- forgetting

-- whether a sighting is forgotten
abbrev pub is_forgotten : Forgotten → Sighting → Bool
is_forgotten All s = true
is_forgotten (Port port) s = nat_eq s.port port
is_forgotten (Station address) s = is_of (number address) s

abbrev pub unless_forgotten : Forgotten → Sighting → Sighting
unless_forgotten which s = if is_forgotten which s then no_sighting else s

-- a bucket without the sightings that are forgotten
abbrev pub without : Forgotten → StationBucket → StationBucket
without which b = record {
  first = unless_forgotten which b.first;
  second = unless_forgotten which b.second;
  third = unless_forgotten which b.third;
  fourth = unless_forgotten which b.fourth;
}
