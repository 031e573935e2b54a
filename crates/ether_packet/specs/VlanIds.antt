-- Setting the identifier of a VLAN tag in place.
use Rattle.std.specs.Prelude.{◌≡◌, ◌≢◌, ℕ, ◌+◌, ◌*◌, ◌/◌, ◌%◌, List, [], length, slice_index}
use Rattle.etherparse.specs.Vlan.{VlanValue}
use Rattle.etherparse.specs.Header.{Header}
use Rattle.etherparse.specs.Header as headers
use Rattle.ether_packet.specs.Getters.{vlan_ids_of}
use Rattle.ether_packet.specs.Replacing.{IsExtAt}

-- the extension at the index is this VLAN tag, and no VLAN tag precedes it
pub record IsOutermost (hs : List Header) (i : ℕ) (tag : VlanValue) : Type 0 where
  pub front : List Header
  pub later : List Header
  pub found : IsExtAt hs i front (headers.Vlan tag) later
  pub outermost : vlan_ids_of front ≡ []

-- Sets the 12 bits of the identifier in a VLAN tag at the offset `at`: the lower half of the first byte and the second
-- byte (IEEE 802.1Q, 9.6). No other bit of the list changes.
pub record SetsVid (old : List ℕ) (at vid : ℕ) (new : List ℕ) : Type 0 where
  pub len : length new ≡ length old
  pub others : (i : ℕ) → i ≢ at → i ≢ at + 1 → slice_index new i ≡ slice_index old i
  pub upper : slice_index new at / 16 ≡ slice_index old at / 16
  pub set : slice_index new at % 16 * 256 + slice_index new (at + 1) ≡ vid
