-- Headers that are passed from C as units: which header a unit is, and why one is refused.
use Rattle.std.specs.Prelude.{◌≡◌, ◌≢◌, ℕ, ◌+◌, ◌<◌, ◌≤◌, List, length}
use Rattle.etherparse.specs.Types.LinkHeader.{LinkHeader}
use Rattle.etherparse.specs.Types.LinkHeader.TheVariants as links
use Rattle.etherparse.specs.LinuxSllProtocolType.{protocol_of}
use Rattle.etherparse.specs.Vlan.{FitsVlan}
use Rattle.etherparse.specs.Macsec.{SecTagValue, payload_type_for, sci_for}
use Rattle.etherparse.specs.Arp.{ArpValue, bytes_at}
use Rattle.etherparse.specs.Header.{Header}
use Rattle.etherparse.specs.Header as headers
use Rattle.ether_c.specs.declared.ether_unit.EtherEthernet2.{EtherEthernet2}
use Rattle.ether_c.specs.declared.ether_unit.EtherLinuxSll.{EtherLinuxSll}
use Rattle.ether_c.specs.declared.ether_unit.EtherMacsec.{EtherMacsec}
use Rattle.ether_c.specs.declared.ether_unit.EtherArp.{EtherArp}
use Rattle.ether_c.specs.declared.ether_unit.EtherUnit.{EtherUnit}
use Rattle.ether_c.specs.Tags.{vlan_value, bad_field}

-- what a call returns for a unit whose kind it does not take
abbrev pub bad_kind : ℕ
bad_kind = 18

-- ---- the header of a link

abbrev pub ethernet2_passed : EtherEthernet2 → LinkHeader
ethernet2_passed e = links.Ethernet2 (record {
  source = e.source;
  destination = e.destination;
  ether_type = record { 0 = e.ether_type };
})

-- the protocol number is read according to the hardware type
abbrev pub linux_sll_passed : EtherLinuxSll → LinkHeader
linux_sll_passed s = links.LinuxSll (record {
  packet_type = s.packet_type;
  arp_hrd_type = record { 0 = s.hardware_type };
  sender_address_valid_length = s.address_len;
  sender_address = s.address;
  protocol_type = protocol_of s.hardware_type s.protocol;
})

pub data PassesLink (u : EtherUnit) : LinkHeader → Type 0 where
  ethernet2 : u.kind ≡ 1 → PassesLink u (ethernet2_passed u.ethernet2)
  linux_sll : u.kind ≡ 2 → u.linux_sll.packet_type ≤ 7 → PassesLink u (linux_sll_passed u.linux_sll)

-- the unit is not a link's header, and a call returns this
pub data PassesNoLink (u : EtherUnit) : (status : ℕ) → Type 0 where
  no_link_kind : u.kind ≢ 1 → u.kind ≢ 2 → PassesNoLink u bad_kind
  bad_packet_type : u.kind ≡ 2 → 7 < u.linux_sll.packet_type → PassesNoLink u bad_field

-- ---- a VLAN tag or SecTag

-- E and C decide whether there is an ether type, SC whether there is an SCI
abbrev pub macsec_value : EtherMacsec → SecTagValue
macsec_value t = record {
  payload_type = payload_type_for t.encrypted t.changed t.ether_type;
  end_station = t.end_station;
  single_copy_broadcast = t.single_copy_broadcast;
  association_number = t.association_number;
  short_len = t.short_len;
  packet_number = t.packet_number;
  sci = sci_for t.sci_present t.sci;
}

-- five bits, two bits AN, six bits SL (IEEE 802.1AE, 9.5 to 9.7)
pub record FitsMacsec (t : EtherMacsec) : Type 0 where
  pub end_station : t.end_station < 2
  pub sci_present : t.sci_present < 2
  pub single_copy_broadcast : t.single_copy_broadcast < 2
  pub encrypted : t.encrypted < 2
  pub changed : t.changed < 2
  pub association_number : t.association_number < 4
  pub short_len : t.short_len < 64

pub data PassesExt (u : EtherUnit) : Header → Type 0 where
  vlan : u.kind ≡ 3 → FitsVlan (vlan_value u.vlan) → PassesExt u (headers.Vlan (vlan_value u.vlan))
  macsec : u.kind ≡ 4 → FitsMacsec u.macsec → PassesExt u (headers.Macsec (macsec_value u.macsec))

-- the unit is not a VLAN tag or SecTag, and a call returns this
pub data PassesNoExt (u : EtherUnit) : (status : ℕ) → Type 0 where
  no_ext_kind : u.kind ≢ 3 → u.kind ≢ 4 → PassesNoExt u bad_kind
  bad_vlan : u.kind ≡ 3 → (FitsVlan (vlan_value u.vlan) → ⊥) → PassesNoExt u bad_field
  bad_macsec : u.kind ≡ 4 → (FitsMacsec u.macsec → ⊥) → PassesNoExt u bad_field

-- ---- an ARP packet, whose addresses are passed as separate bytes

-- each address is inside the bytes
pub record HasAddresses (a : EtherArp) (bytes : List ℕ) : Type 0 where
  pub sender_hardware : a.sender_hardware + a.hardware_size ≤ length bytes
  pub sender_protocol : a.sender_protocol + a.protocol_size ≤ length bytes
  pub target_hardware : a.target_hardware + a.hardware_size ≤ length bytes
  pub target_protocol : a.target_protocol + a.protocol_size ≤ length bytes

abbrev pub arp_passed : EtherArp → (bytes : List ℕ) → ArpValue
arp_passed a bytes = record {
  hardware_type = a.hardware_type;
  protocol_type = a.protocol_type;
  operation = a.operation;
  sender_hardware = bytes_at bytes a.sender_hardware a.hardware_size;
  sender_protocol = bytes_at bytes a.sender_protocol a.protocol_size;
  target_hardware = bytes_at bytes a.target_hardware a.hardware_size;
  target_protocol = bytes_at bytes a.target_protocol a.protocol_size;
}

pub data PassesArp (u : EtherUnit) (bytes : List ℕ) : ArpValue → Type 0 where
  arp : u.kind ≡ 5 → HasAddresses u.arp bytes → PassesArp u bytes (arp_passed u.arp bytes)

-- the unit is not an ARP packet, and a call returns this
pub data PassesNoArp (u : EtherUnit) (bytes : List ℕ) : (status : ℕ) → Type 0 where
  no_arp_kind : u.kind ≢ 5 → PassesNoArp u bytes bad_kind
  bad_addresses : u.kind ≡ 5 → (HasAddresses u.arp bytes → ⊥) → PassesNoArp u bytes bad_field
