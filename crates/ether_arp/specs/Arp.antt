-- Bytes that hold a packet of the Address Resolution Protocol (RFC 826, "Packet format").
use Rattle.std.specs.Prelude.{◌≡◌, ℕ, ◌≤◌, List, length}
use Rattle.ether_base.specs.Formats.Arp.{arp_front_in, arp_len}

-- a list begins with the eight bytes of a front and its addresses
pub record BeginsWithArp (bytes : List ℕ) : Type 0 where
  pub front : 8 ≤ length bytes
  pub whole : arp_len (arp_front_in bytes) ≤ length bytes

-- a list is a packet, with nothing after it
pub record HoldsArp (bytes : List ℕ) : Type 0 where
  pub front : 8 ≤ length bytes
  pub whole : length bytes ≡ arp_len (arp_front_in bytes)
