-- What the fields of a header are called, and which values a header gives them.
use Rattle.std.specs.Prelude.{ℕ, List, [], ◌∷◌, ◌++◌, map, codes, Option, Some, None, unwrap_or}
use Rattle.std.specs.Option.{option_map}
use Rattle.etherparse.specs.Bytes.{number}
use Rattle.ether_base.specs.Formats.Ethernet2.{Ethernet2Value}
use Rattle.ether_base.specs.Formats.LinuxSll.{LinuxSllValue}
use Rattle.ether_base.specs.Formats.Vlan.{VlanValue}
use Rattle.ether_base.specs.Formats.Macsec.{SecTagFront, SecTagValue, PayloadType, Unmodified, sec_tag_front_of}
use Rattle.ether_base.specs.Formats.Arp.{ArpFront, ArpValue, arp_front_of}
use Rattle.etherparse.specs.Header.{Header, Means}
use Rattle.etherparse.specs.Header as headers
use Rattle.ether_sll2.specs.LinuxSll2.{LinuxSll2Value}
use Rattle.ether_fields.specs.Rows.{Row}
use Rattle.ether_fields.specs.Fields.{row_numbered}
use Rattle.ether_fields.specs.Places.{bits_number}
use Rattle.ether_fields.specs.declared.field_place.FieldPlace.{FieldPlace}

pub record FieldValue : Type 0 where
  pub name : List ℕ
  pub value : ℕ

abbrev pub named : (name : List ℕ) → (value : ℕ) → FieldValue
named name value = record { name = name; value = value }

-- ---- by the table

-- the name in the row with this number
abbrev pub row_name : List Row → (number : ℕ) → List ℕ
row_name rows number = unwrap_or (option_map (λ r. r.name) (row_numbered number rows)) []

-- the numbers that a list has at the places of fields, each with the name that its row gives it
abbrev pub placed_values : List ℕ → List Row → List FieldPlace → List FieldValue
placed_values list rows places = map (λ f. named (row_name rows f.number) (bits_number list f.first f.len)) places

-- ---- by the standards, in the order of the bits

-- Ethernet II (IEEE 802.3, 3.2.3 to 3.2.6)
abbrev pub ethernet2_values : Ethernet2Value → List FieldValue
ethernet2_values e =
    named (codes "dst") e.destination ∷ named (codes "src") e.source ∷ named (codes "type") e.ether_type ∷ []

-- Linux cooked capture v1 (LINKTYPE_LINUX_SLL of the tcpdump group)
abbrev pub linux_sll_values : LinuxSllValue → List FieldValue
linux_sll_values s =
    named (codes "packet_type") s.packet_type
    ∷ named (codes "hw_type") s.hardware_type
    ∷ named (codes "addr_len") s.address_len
    ∷ named (codes "addr") s.address
    ∷ named (codes "protocol") s.protocol
    ∷ []

-- .. v2 (LINKTYPE_LINUX_SLL2)
abbrev pub linux_sll2_values : (reserved : ℕ) → LinuxSll2Value → List FieldValue
linux_sll2_values reserved s =
    named (codes "protocol") s.protocol
    ∷ named (codes "reserved") reserved
    ∷ named (codes "if_index") s.interface_index
    ∷ named (codes "hw_type") s.hardware_type
    ∷ named (codes "packet_type") s.packet_type
    ∷ named (codes "addr_len") s.address_len
    ∷ named (codes "addr") s.address
    ∷ []

-- a VLAN tag (IEEE 802.1Q, 9.6)
abbrev pub vlan_values : VlanValue → List FieldValue
vlan_values v =
    named (codes "pcp") v.pcp
    ∷ named (codes "dei") v.dei
    ∷ named (codes "vid") v.vid
    ∷ named (codes "type") v.ether_type
    ∷ []

-- the first two bytes of a SecTag (IEEE 802.1AE, 9.5 to 9.7)
abbrev pub sec_tag_front_values : SecTagFront → List FieldValue
sec_tag_front_values t =
    named (codes "v") t.version
    ∷ named (codes "es") t.end_station
    ∷ named (codes "sc") t.sci_present
    ∷ named (codes "scb") t.single_copy_broadcast
    ∷ named (codes "e") t.encrypted
    ∷ named (codes "c") t.changed
    ∷ named (codes "an") t.association_number
    ∷ named (codes "reserved") t.reserved
    ∷ named (codes "sl") t.short_len
    ∷ []

-- its SCI (9.9), if there is one
abbrev pub sci_values : Option ℕ → List FieldValue
sci_values None = []
sci_values (Some sci) = named (codes "sci") sci ∷ []

-- the ether type after it, if it can be read
abbrev pub payload_type_values : PayloadType → List FieldValue
payload_type_values (Unmodified ether_type) = named (codes "type") ether_type ∷ []
payload_type_values _ = []

-- the SecTag with its packet number (9.8)
abbrev pub sec_tag_values : SecTagFront → SecTagValue → List FieldValue
sec_tag_values front t = sec_tag_front_values front ++ named (codes "pn") t.packet_number ∷ sci_values t.sci
    ++ payload_type_values t.payload_type

-- the first eight bytes of an ARP packet (RFC 826, "Packet format")
abbrev pub arp_front_values : ArpFront → List FieldValue
arp_front_values a =
    named (codes "hrd") a.hardware_type
    ∷ named (codes "pro") a.protocol_type
    ∷ named (codes "hln") a.hardware_size
    ∷ named (codes "pln") a.protocol_size
    ∷ named (codes "op") a.operation
    ∷ []

-- the packet with its addresses, as the numbers of their bytes
abbrev pub arp_values : ArpValue → List FieldValue
arp_values a =
    arp_front_values (arp_front_of a)
    ++ named (codes "sha") (number a.sender_hardware)
    ∷ named (codes "spa") (number a.sender_protocol)
    ∷ named (codes "tha") (number a.target_hardware)
    ∷ named (codes "tpa") (number a.target_protocol)
    ∷ []

-- the frame check sequence after a payload (IEEE 802.3, 3.2.9), as the number of its bytes
abbrev pub trailer_values : List ℕ → Header → List FieldValue
trailer_values bytes (headers.Ethernet2Fcs e) = named (codes "fcs") (number bytes) ∷ []
trailer_values bytes _ = []

-- the values of the header that bytes mean, and the version and the reserved bits of a SecTag, which are no part of it
abbrev pub header_values : (bytes : List ℕ) → (h : Header) → Means bytes h → List FieldValue
header_values bytes (headers.Ethernet2 e) means = ethernet2_values e
header_values bytes (headers.Ethernet2Fcs e) means = ethernet2_values e
header_values bytes (headers.LinuxSll s) means = linux_sll_values s
header_values bytes (headers.Vlan v) means = vlan_values v
header_values bytes (headers.Macsec t) means =
    sec_tag_values (sec_tag_front_of means.spells.version means.spells.reserved t) t
header_values bytes (headers.Arp a) means = arp_values a
