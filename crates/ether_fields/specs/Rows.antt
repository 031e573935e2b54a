-- The table of fields: those of each header in the order of its bits, and what else a packet tells.
use Rattle.std.specs.Prelude.{ℕ, List, [], ◌∷◌, codes, Bool, true, false}
use Rattle.ether_fields.specs.declared.extent.Extent.{Extent}
use Rattle.ether_fields.specs.declared.extent.Extent.TheVariants.{Computed, Bits, HardwareAddress, ProtocolAddress, SecureChannel, PayloadType, CheckSequence}
use Rattle.ether_fields.specs.declared.kind.Kind.{Kind}
use Rattle.ether_fields.specs.declared.kind.Kind.TheVariants as kind

-- The name of a field in its section, what its standard calls it, and the standard's abbreviation if there is one; what
-- its value is, and how many bits it has; its number for C and the end of its name there; whether it is a member of
-- objects; and whether it is a column.
pub record Row : Type 0 where
  pub name : List ℕ
  pub title : List ℕ
  pub abbreviation : List ℕ
  pub kind : Kind
  pub extent : Extent
  pub number : ℕ
  pub symbol : List ℕ
  pub is_member : Bool
  pub is_column : Bool

-- a field
abbrev pub field : (name title abbreviation : List ℕ) → Kind → Extent → (number : ℕ) → (symbol : List ℕ) → Row
field name title abbreviation kind extent number symbol = record {
  name = name;
  title = title;
  abbreviation = abbreviation;
  kind = kind;
  extent = extent;
  number = number;
  symbol = symbol;
  is_member = true;
  is_column = true;
}

-- .. that no object or column has
abbrev pub hidden : Row → Row
hidden row = record row { is_member = false; is_column = false }

-- .. that is a column alone
abbrev pub column_only : Row → Row
column_only row = record row { is_member = false }

-- a member that has no bits
abbrev pub computed : (name title : List ℕ) → Kind → Row
computed name title kind = field name title [] kind Computed 0 []

-- ---- headers

-- Ethernet II (IEEE 802.3, 3.2), and the frame check sequence after the payload (3.2.9)
abbrev pub ethernet2_rows : List Row
ethernet2_rows =
    field (codes "dst") (codes "Destination address") [] kind.Bytes (Bits 48) 1 (codes "ETHERNET2_DESTINATION")
    ∷ field (codes "src") (codes "Source address") [] kind.Bytes (Bits 48) 2 (codes "ETHERNET2_SOURCE")
    ∷ field (codes "type") (codes "EtherType") [] kind.EtherType (Bits 16) 3 (codes "ETHERNET2_ETHER_TYPE")
    ∷ field (codes "fcs") (codes "Frame check sequence") (codes "FCS") kind.Bytes CheckSequence 34 (codes "FCS")
    ∷ []

-- Linux cooked capture v1 (LINKTYPE_LINUX_SLL of the tcpdump group)
abbrev pub linux_sll_rows : List Row
linux_sll_rows =
    field (codes "packet_type") (codes "Packet type") [] kind.PacketType (Bits 16) 4 (codes "LINUX_SLL_PACKET_TYPE")
    ∷ field (codes "hw_type") (codes "ARPHRD type") [] kind.HardwareType (Bits 16) 5 (codes "LINUX_SLL_HARDWARE_TYPE")
    ∷ field (codes "addr_len") (codes "Address length") [] kind.Number (Bits 16) 6 (codes "LINUX_SLL_ADDRESS_LEN")
    ∷ field (codes "addr") (codes "Address") [] kind.Bytes (Bits 64) 7 (codes "LINUX_SLL_ADDRESS")
    ∷ field (codes "protocol") (codes "Protocol") [] kind.EtherType (Bits 16) 8 (codes "LINUX_SLL_PROTOCOL")
    ∷ []

-- Linux cooked capture v2 (LINKTYPE_LINUX_SLL2)
abbrev pub linux_sll2_rows : List Row
linux_sll2_rows =
    field (codes "protocol") (codes "Protocol type") [] kind.EtherType (Bits 16) 35 (codes "LINUX_SLL2_PROTOCOL")
    ∷ hidden
    (field (codes "reserved") (codes "Reserved") [] kind.Number (Bits 16) 36 (codes "LINUX_SLL2_RESERVED"))
    ∷ field (codes "if_index") (codes "Interface index") [] kind.Number (Bits 32) 37
    (codes "LINUX_SLL2_INTERFACE_INDEX")
    ∷ field (codes "hw_type") (codes "ARPHRD type") [] kind.HardwareType (Bits 16) 38
    (codes "LINUX_SLL2_HARDWARE_TYPE")
    ∷ field (codes "packet_type") (codes "Packet type") [] kind.PacketType (Bits 8) 39 (codes "LINUX_SLL2_PACKET_TYPE")
    ∷ field (codes "addr_len") (codes "Address length") [] kind.Number (Bits 8) 40 (codes "LINUX_SLL2_ADDRESS_LEN")
    ∷ field (codes "addr") (codes "Address") [] kind.Bytes (Bits 64) 41 (codes "LINUX_SLL2_ADDRESS")
    ∷ []

-- a VLAN tag: its control information (IEEE 802.1Q, 9.6), and the ether type after it
abbrev pub vlan_rows : List Row
vlan_rows =
    field (codes "pcp") (codes "Priority code point") (codes "PCP") kind.Number (Bits 3) 9 (codes "VLAN_PCP")
    ∷ field (codes "dei") (codes "Drop eligible indicator") (codes "DEI") kind.Flag (Bits 1) 10 (codes "VLAN_DEI")
    ∷ field (codes "vid") (codes "VLAN identifier") (codes "VID") kind.Number (Bits 12) 11 (codes "VLAN_VID")
    ∷ field (codes "type") (codes "EtherType") [] kind.EtherType (Bits 16) 12 (codes "VLAN_ETHER_TYPE")
    ∷ []

-- the SecTag of MACsec (IEEE 802.1AE, 9.3 to 9.9), and the ether type after it; `payload` says whether that was changed
-- or encrypted (9.5)
abbrev pub macsec_rows : List Row
macsec_rows =
    computed (codes "payload") (codes "Payload") kind.Word
    ∷ hidden (field (codes "v") (codes "Version") (codes "V") kind.Number (Bits 1) 13 (codes "MACSEC_V"))
    ∷ field (codes "es") (codes "End station") (codes "ES") kind.Flag (Bits 1) 14 (codes "MACSEC_ES")
    ∷ hidden (field (codes "sc") (codes "Secure channel") (codes "SC") kind.Flag (Bits 1) 15 (codes "MACSEC_SC"))
    ∷ field (codes "scb") (codes "Single copy broadcast") (codes "SCB") kind.Flag (Bits 1) 16 (codes "MACSEC_SCB")
    ∷ field (codes "e") (codes "Encryption") (codes "E") kind.Flag (Bits 1) 17 (codes "MACSEC_E")
    ∷ field (codes "c") (codes "Changed text") (codes "C") kind.Flag (Bits 1) 18 (codes "MACSEC_C")
    ∷ field (codes "an") (codes "Association number") (codes "AN") kind.Number (Bits 2) 19 (codes "MACSEC_AN")
    ∷ hidden (field (codes "reserved") (codes "Reserved") [] kind.Number (Bits 2) 20 (codes "MACSEC_RESERVED"))
    ∷ field (codes "sl") (codes "Short length") (codes "SL") kind.Number (Bits 6) 21 (codes "MACSEC_SL")
    ∷ field (codes "pn") (codes "Packet number") (codes "PN") kind.Number (Bits 32) 22 (codes "MACSEC_PN")
    ∷ field (codes "sci") (codes "Secure channel identifier") (codes "SCI") kind.Bytes SecureChannel 23
    (codes "MACSEC_SCI")
    ∷ field (codes "type") (codes "EtherType") [] kind.EtherType PayloadType 24 (codes "MACSEC_ETHER_TYPE")
    ∷ []

-- an ARP packet (RFC 826, "Packet format")
abbrev pub arp_rows : List Row
arp_rows =
    field (codes "hrd") (codes "Hardware type") (codes "ar$hrd") kind.HardwareType (Bits 16) 25
    (codes "ARP_HARDWARE_TYPE")
    ∷ field (codes "pro") (codes "Protocol type") (codes "ar$pro") kind.EtherType (Bits 16) 26
    (codes "ARP_PROTOCOL_TYPE")
    ∷ field (codes "hln") (codes "Hardware address length") (codes "ar$hln") kind.Number (Bits 8) 27
    (codes "ARP_HARDWARE_SIZE")
    ∷ field (codes "pln") (codes "Protocol address length") (codes "ar$pln") kind.Number (Bits 8) 28
    (codes "ARP_PROTOCOL_SIZE")
    ∷ field (codes "op") (codes "Operation") (codes "ar$op") kind.Operation (Bits 16) 29 (codes "ARP_OPERATION")
    ∷ field (codes "sha") (codes "Sender hardware address") (codes "ar$sha") kind.Bytes HardwareAddress 30
    (codes "ARP_SENDER_HARDWARE")
    ∷ field (codes "spa") (codes "Sender protocol address") (codes "ar$spa") kind.ProtocolAddress ProtocolAddress 31
    (codes "ARP_SENDER_PROTOCOL")
    ∷ field (codes "tha") (codes "Target hardware address") (codes "ar$tha") kind.Bytes HardwareAddress 32
    (codes "ARP_TARGET_HARDWARE")
    ∷ field (codes "tpa") (codes "Target protocol address") (codes "ar$tpa") kind.ProtocolAddress ProtocolAddress 33
    (codes "ARP_TARGET_PROTOCOL")
    ∷ []

-- ---- what else a packet tells

-- the packet itself (pcapng, 4.3), and the minute, the hour and the day of its time
abbrev pub frame_rows : List Row
frame_rows =
    computed (codes "number") (codes "Number") kind.Number
    ∷ computed (codes "time") (codes "Time") kind.Time
    ∷ computed (codes "link") (codes "Link type") kind.LinkType
    ∷ computed (codes "captured") (codes "Captured length") kind.Number
    ∷ computed (codes "original") (codes "Original length") kind.Number
    ∷ computed (codes "interface") (codes "Interface ID") kind.Number
    ∷ computed (codes "direction") (codes "Direction") kind.Word
    ∷ computed (codes "comment") (codes "Comment") kind.Bytes
    ∷ computed (codes "file") (codes "File") kind.Bytes
    ∷ column_only (computed (codes "minute") (codes "Minute") kind.Time)
    ∷ column_only (computed (codes "hour") (codes "Hour") kind.Time)
    ∷ column_only (computed (codes "day") (codes "Day") kind.Time)
    ∷ []

-- each header: its name and its place
abbrev pub place_rows : List Row
place_rows =
    computed (codes "header") (codes "Header") kind.Word
    ∷ computed (codes "start") (codes "Start of the header") kind.Number
    ∷ computed (codes "end") (codes "End of the header") kind.Number
    ∷ computed (codes "payload_end") (codes "End of the payload") kind.Number
    ∷ computed (codes "closed") (codes "Closed") kind.Truth
    ∷ []

-- what is left after the headers
abbrev pub rest_rows : List Row
rest_rows =
    computed (codes "start") (codes "Start") kind.Number
    ∷ computed (codes "end") (codes "End") kind.Number
    ∷ computed (codes "kind") (codes "Kind") kind.Word
    ∷ computed (codes "type") (codes "Type") kind.EtherType
    ∷ []

-- what is wrong with the first header that is refused
abbrev pub fault_rows : List Row
fault_rows =
    computed (codes "start") (codes "Start") kind.Number
    ∷ computed (codes "closed") (codes "Closed") kind.Truth
    ∷ computed (codes "kind") (codes "Kind") kind.Word
    ∷ computed (codes "required") (codes "Required length") kind.Number
    ∷ computed (codes "available") (codes "Available length") kind.Number
    ∷ computed (codes "source") (codes "Source of the length") kind.Word
    ∷ computed (codes "value") (codes "Value") kind.Number
    ∷ []
