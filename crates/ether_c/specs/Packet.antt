-- All headers of a packet, by a call from C.
use Rattle.std.specs.Prelude.{◌≡◌, ℕ, List, [], ◌∷◌, length, max, slice_get, unwrap_or, nat_eq, nat_lt, Option, Some, None, if◌then◌else◌}
use Rattle.std.specs.List.{filter_map}
use Rattle.etherparse.specs.Macsec.{ether_type_len}
use Rattle.ether_peel.specs.Grammar.Cuts.{reach}
use Rattle.ether_peel.specs.declared.start.Start.{Start}
use Rattle.ether_packet.specs.declared.packet_slice.PacketSlice.{PacketSlice}
use Rattle.ether_packet.specs.Packet.{packet_start, packet_headers, IsPacket}
use Rattle.ether_packet.specs.Getters.{vlan_ids_of, SnapsAt}
use Rattle.ether_c.specs.declared.ether_headers.EtherHeaders.{EtherHeaders}
use Rattle.ether_c.specs.declared.ether_unit.EtherUnit.{EtherUnit}
use Rattle.ether_c.specs.Calls.{GivesSummary}
use Rattle.ether_c.specs.Walk.{GivesUnits}

-- the first three of a list of numbers, padded with 0
abbrev pub c_ids : List ℕ → List ℕ
c_ids ids =
    unwrap_or (slice_get ids 0) 0 ∷ unwrap_or (slice_get ids 1) 0 ∷ unwrap_or (slice_get ids 2) 0 ∷ []

-- the identifier of a unit that is a VLAN tag
abbrev pub unit_id : EtherUnit → Option ℕ
unit_id u = if nat_eq u.kind 3 then Some u.vlan.vid else None

-- the identifiers of all VLAN tags, in order
abbrev pub unit_ids : List EtherUnit → List ℕ
unit_ids us = filter_map unit_id us

-- the offset at which a unit ends: with its payload, if it is a SecTag whose short length counts more than an ether
-- type
abbrev pub unit_reach : EtherUnit → ℕ
unit_reach u =
    if nat_lt (ether_type_len u.macsec.encrypted u.macsec.changed) u.macsec.short_len then u.payload_end
    else u.payload_start

-- the greatest of these offsets, 0 if there are no units
abbrev pub units_reach : List EtherUnit → ℕ
units_reach [] = 0
units_reach (u ∷ us) = max (unit_reach u) (units_reach us)

-- The packet of a list: its headers as units, and then what the array held before; the window after them; the
-- identifiers of its VLAN tags; and the shortest cut that keeps its headers.
pub record GivesPacket (start : Start) (list : List ℕ) (old : List EtherUnit)
    (new : EtherHeaders) (status : ℕ) : Type 0 where
  pub packet : PacketSlice
  pub is : IsPacket (packet_start start) list packet
  pub units : GivesUnits (packet_start start) list old new.units new.found.units
  pub found : GivesSummary (packet_start start) list status new.found
  pub ids : new.vlan_ids ≡ c_ids (vlan_ids_of (packet_headers packet))
  pub id_count : new.vlan_count ≡ length (vlan_ids_of (packet_headers packet))
  pub snap : new.min_snap_len ≡ reach 0 (packet_headers packet)
  pub least : SnapsAt packet new.min_snap_len
