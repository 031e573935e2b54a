-- A header of any kind as a value, the bytes that mean it, and the bytes that it is written as.
use Rattle.std.specs.Prelude.{ℕ, ◌+◌, ◌≤◌, List, length, slice_range, Option, None, unwrap_or}
use Rattle.ether_base.specs.Formats.Ethernet2.{Ethernet2Value, FitsEthernet2, IsEthernet2, ethernet2_bytes}
use Rattle.ether_base.specs.Formats.Vlan.{VlanValue, FitsVlan, IsVlan, vlan_bytes}
use Rattle.ether_base.specs.Formats.LinuxSll.{LinuxSllValue, FitsLinuxSll, IsLinuxSll, linux_sll_bytes}
use Rattle.ether_base.specs.Formats.Macsec.{SecTagValue, FitsSecTag, IsSecTag, sec_tag_front_of, sec_tag_len, known_payload_len, sec_tag_bytes}
use Rattle.ether_base.specs.Formats.Arp.{ArpValue, FitsArp, IsArp, arp_front_of, arp_len, arp_bytes}
use Rattle.ether_base.specs.Formats.Kind.{Kind}
use Rattle.ether_base.specs.Formats.Kind as kinds

pub data Header : Type 0 where
  Ethernet2 : Ethernet2Value → Header
  Ethernet2Fcs : Ethernet2Value → Header
  LinuxSll : LinuxSllValue → Header
  Vlan : VlanValue → Header
  Macsec : SecTagValue → Header
  Arp : ArpValue → Header

abbrev pub kind_of : Header → Kind
kind_of (Ethernet2 e) = kinds.Ethernet2
kind_of (Ethernet2Fcs e) = kinds.Ethernet2Fcs
kind_of (LinuxSll s) = kinds.LinuxSll
kind_of (Vlan v) = kinds.Vlan
kind_of (Macsec t) = kinds.Macsec
kind_of (Arp a) = kinds.Arp

-- ---- lengths

abbrev pub header_len : Header → ℕ
header_len (Ethernet2 e) = 14
header_len (Ethernet2Fcs e) = 14
header_len (LinuxSll s) = 16
header_len (Vlan v) = 4
header_len (Macsec t) = sec_tag_len (sec_tag_front_of 0 0 t)
header_len (Arp a) = arp_len (arp_front_of a)

-- the payload's length, if the header names it
abbrev pub payload_len : Header → Option ℕ
payload_len (Macsec t) = known_payload_len (sec_tag_front_of 0 0 t)
payload_len _ = None

-- the length of a frame check sequence, which follows the payload and is not part of it
abbrev pub trailer_len : Header → ℕ
trailer_len (Ethernet2Fcs e) = 4
trailer_len _ = 0

-- the length of a unit: that of its header, and that of its payload if the header names it
abbrev pub unit_len : Header → ℕ
unit_len h = header_len h + unwrap_or (payload_len h) 0

-- ---- meaning

-- these bytes mean the header, if they are as many as it has
abbrev pub Spells : List ℕ → Header → Type 0
Spells bytes (Ethernet2 e) = IsEthernet2 bytes e
Spells bytes (Ethernet2Fcs e) = IsEthernet2 bytes e
Spells bytes (LinuxSll s) = IsLinuxSll bytes s
Spells bytes (Vlan v) = IsVlan bytes v
Spells bytes (Macsec t) = IsSecTag bytes t
Spells bytes (Arp a) = IsArp bytes a

-- a list begins with a header
pub record Means (bytes : List ℕ) (h : Header) : Type 0 where
  pub whole : header_len h ≤ length bytes
  pub spells : Spells (slice_range bytes 0 (header_len h)) h

-- ---- writing

-- its numbers are in their ranges
abbrev pub FitsHeader : Header → Type 0
FitsHeader (Ethernet2 e) = FitsEthernet2 e
FitsHeader (Ethernet2Fcs e) = FitsEthernet2 e
FitsHeader (LinuxSll s) = FitsLinuxSll s
FitsHeader (Vlan v) = FitsVlan v
FitsHeader (Macsec t) = FitsSecTag t
FitsHeader (Arp a) = FitsArp a

-- the bytes of a header
abbrev pub header_bytes : Header → List ℕ
header_bytes (Ethernet2 e) = ethernet2_bytes e
header_bytes (Ethernet2Fcs e) = ethernet2_bytes e
header_bytes (LinuxSll s) = linux_sll_bytes s
header_bytes (Vlan v) = vlan_bytes v
header_bytes (Macsec t) = sec_tag_bytes t
header_bytes (Arp a) = arp_bytes a
