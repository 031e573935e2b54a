-- The Ethernet II header (IEEE 802.3, 3.2.3 to 3.2.6, with the type in place of the length; DIX Ethernet 2.0).
use Rattle.std.specs.Prelude.{◌≡◌, ℕ, ◌+◌, ◌*◌, ◌^◌, ◌<◌, List, slice_range}
use Rattle.ether_base.specs.Bytes.{number, spelled}

pub record Ethernet2Value : Type 0 where
  pub destination : ℕ
  pub source : ℕ
  pub ether_type : ℕ

-- destination 6 bytes, source 6 bytes, ether type 2 bytes
abbrev pub ethernet2_number : Ethernet2Value → ℕ
ethernet2_number e = e.destination * 2 ^ 64 + e.source * 2 ^ 16 + e.ether_type

pub record FitsEthernet2 (e : Ethernet2Value) : Type 0 where
  pub destination : e.destination < 2 ^ 48
  pub source : e.source < 2 ^ 48
  pub ether_type : e.ether_type < 2 ^ 16

-- fourteen bytes mean a value
pub record IsEthernet2 (bytes : List ℕ) (e : Ethernet2Value) : Type 0 where
  pub sum : number bytes ≡ ethernet2_number e
  pub fits : FitsEthernet2 e

-- the fourteen bytes of a value
abbrev pub ethernet2_bytes : Ethernet2Value → List ℕ
ethernet2_bytes e = spelled 14 (ethernet2_number e)

-- the value in a list of at least fourteen bytes
abbrev pub ethernet2_of : List ℕ → Ethernet2Value
ethernet2_of bytes = record {
  destination = number (slice_range bytes 0 6);
  source = number (slice_range bytes 6 12);
  ether_type = number (slice_range bytes 12 14);
}
