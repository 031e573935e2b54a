-- Tables of packets: a row for each packet of a capture.
use Rattle.std.specs.Prelude.{◌≡◌, ℕ, ◌+◌, ◌*◌, ◌^◌, List, [], length, slice_get, nat_eq, nat_lt, Option, Some, None, if◌then◌else◌}
use Rattle.etherparse.specs.Bytes.{number, spelled}
use Rattle.etherparse.specs.Types.LinkSlice.{LinkSlice}
use Rattle.etherparse.specs.Types.LinkSlice.TheVariants as links
use Rattle.etherparse.specs.Ethernet2.{ethernet2_of}
use Rattle.ether_peel.specs.Grammar.Expectation.{Next}
use Rattle.ether_peel.specs.Walker.Start.{next_of}
use Rattle.ether_peel.specs.declared.start.Start.{Start}
use Rattle.ether_packet.specs.declared.packet_slice.PacketSlice.{PacketSlice}
use Rattle.ether_packet.specs.Packet.{packet_start, packet_headers, IsPacket}
use Rattle.ether_packet.specs.Getters.{sec_tags_of, vlan_ids_of}
use Rattle.ether_packet.specs.Views.{arp_offset, link_of}
use Rattle.ether_content.specs.Content.{ContentValue, IsWalked, content_of}
use Rattle.ether_c.specs.declared.ether_captured.EtherCaptured.{EtherCaptured}
use Rattle.ether_c.specs.declared.ether_row.EtherRow.{EtherRow}
use Rattle.ether_c.specs.Found.{c_end}
use Rattle.ether_c.specs.Numbers.{rest_kind_number, rest_protocol_of}
use Rattle.ether_c.specs.Packet.{c_ids}
use Rattle.ether_c.specs.Selection.{packet_value}

-- ---- what the capture says of a packet

-- NumPy's "not a time": the least number of 64 bits in two's complement
abbrev pub no_time : ℕ
no_time = 2 ^ 63

-- a number of nanoseconds since 1970, if it is below that
abbrev pub time_told : ℕ → ℕ
time_told nanoseconds = if nat_lt nanoseconds no_time then nanoseconds else no_time

abbrev pub row_time : EtherCaptured → ℕ
row_time c = if nat_eq c.has_time 0 then no_time else time_told (c.seconds * 1000000000 + c.nanoseconds)

-- ---- what its headers say

-- the number of the six bytes of an address
abbrev pub address_number : ℕ → ℕ
address_number address = number (spelled 6 address)

-- the addresses of an Ethernet II header
abbrev pub HoldsAddresses : Option LinkSlice → EtherRow → Type 0
HoldsAddresses (Some (links.Ethernet2 slice)) r =
    (r.has_addresses ≡ 1) × (r.destination ≡ address_number (ethernet2_of slice.bytes).destination)
    × (r.source ≡ address_number (ethernet2_of slice.bytes).source)
HoldsAddresses _ r = (r.has_addresses ≡ 0) × (r.destination ≡ 0) × (r.source ≡ 0)

-- the protocol that announces what is left, if its kind is that of ether types; else 0
abbrev pub ether_type_told : (kind protocol : ℕ) → ℕ
ether_type_told kind protocol = if nat_eq kind 1 then protocol else 0

-- 1 if there is a value, else 0
abbrev pub presence : {T : Type 0} → Option T → ℕ
presence (Some value) = 1
presence None = 0

pub record HoldsHeaders (p : PacketSlice) (r : EtherRow) : Type 0 where
  pub addresses : HoldsAddresses (link_of p.read.units) r
  pub ids : r.vlan_ids ≡ c_ids (vlan_ids_of (packet_headers p))
  pub id_count : r.vlan_count ≡ length (vlan_ids_of (packet_headers p))
  pub macsec : r.has_macsec ≡ presence (slice_get (sec_tags_of p.read.units) 0)
  pub arp : r.has_arp ≡ presence (arp_offset p.read.units)
  pub ether_type : r.ether_type ≡ ether_type_told (rest_kind_number p.rest_kind) (rest_protocol_of p.rest_kind)
  pub fault : r.fault ≡ (c_end p.fault).kind
  pub fault_offset : r.fault_offset ≡ (c_end p.fault).offset

pub record HasNoHeaders (r : EtherRow) : Type 0 where
  pub addresses : HoldsAddresses None r
  pub ids : r.vlan_ids ≡ c_ids []
  pub id_count : r.vlan_count ≡ 0
  pub macsec : r.has_macsec ≡ 0
  pub arp : r.has_arp ≡ 0
  pub ether_type : r.ether_type ≡ 0
  pub fault : r.fault ≡ 0
  pub fault_offset : r.fault_offset ≡ 0

-- the headers of the part of the packet that is walked, if there is one
pub data HoldsContent (content : ContentValue) (r : EtherRow) : Type 0 where
  walked : (start : Start) (bytes : List ℕ) (p : PacketSlice) → IsWalked content (next_of start) bytes
      → IsPacket (packet_start start) bytes p → HoldsHeaders p r → HoldsContent content r
  unwalked : ((next : Next) (bytes : List ℕ) → IsWalked content next bytes → ⊥) → HasNoHeaders r
      → HoldsContent content r

-- ---- a row

pub record HoldsRow (c : EtherCaptured) (r : EtherRow) : Type 0 where
  pub time : r.time ≡ row_time c
  pub captured_len : r.captured_len ≡ length c.packet.now
  pub original_len : r.original_len ≡ c.original_len
  pub link_type : r.link_type ≡ c.link_type
  pub content : HoldsContent (content_of (packet_value c)) r
