-- What a header says: its members, each with a name and a value. Lines of JSON and columns are spelled from them.
use Rattle.std.specs.Prelude.{ℕ, ◌&&◌, nat_eq, List, [], ◌∷◌, ◌++◌, length, take, codes, Bool, Option, Some, None, if◌then◌else◌}
use Rattle.ether_fields.specs.Rows.{Row, frame_rows}
use Rattle.etherparse.specs.Bytes.{spelled}
use Rattle.etherparse.specs.Ethernet2.{Ethernet2Value}
use Rattle.etherparse.specs.Vlan.{VlanValue}
use Rattle.etherparse.specs.LinuxSll.{LinuxSllValue}
use Rattle.etherparse.specs.Macsec.{SecTagValue, PayloadType, encrypted_of, changed_of}
use Rattle.etherparse.specs.Macsec as payloads
use Rattle.etherparse.specs.Arp.{ArpValue}
use Rattle.ether_sll2.specs.LinuxSll2.{LinuxSll2Value}
use Rattle.ether_pcap.specs.Capture.{DirectionValue, Inbound, Outbound, PacketValue}
use Rattle.ether_format.specs.declared.moment.Moment.{Moment}
use Rattle.ether_format.specs.declared.interval.Interval.{Interval}
use Rattle.ether_format.specs.declared.interval.Interval.TheVariants as intervals
use Rattle.ether_format.specs.Origins.{OriginValue}

-- ---- values

pub data Value : Type 0 where
  -- the header does not have it
  Nothing : Value
  Number : ℕ → Value
  -- an ether type, or another protocol number of 16 bits
  Protocol : ℕ → Value
  Flag : Bool → Value
  Bytes : List ℕ → Value
  -- the bytes of an address of IPv4
  Dotted : List ℕ → Value
  Word : List ℕ → Value
  -- a text, which may hold any byte
  Text : List ℕ → Value
  Time : Moment → Value
  -- the minute, the hour or the day of a time
  Within : Interval → Moment → Value

pub record Member : Type 0 where
  pub name : List ℕ
  pub value : Value

abbrev pub member : List ℕ → Value → Member
member name value = record { name = name; value = value }

-- a value that may be missing
abbrev pub if_some : {X : Type 0} → (X → Value) → Option X → Value
if_some value None = Nothing
if_some value (Some x) = value x

-- the members of rows with these values; a field that has no value here is no member
abbrev pub members : List Row → List (Option Value) → List Member
members (r ∷ rs) (Some v ∷ vs) = member r.name v ∷ members rs vs
members (r ∷ rs) (None ∷ vs) = members rs vs
members rows values = []

-- ---- the values of each header's fields, in the order of its rows

-- Ethernet II (IEEE 802.3, 3.2), with its frame check sequence if there is one (3.2.9)
abbrev pub ethernet2_values : Ethernet2Value → (fcs : Option (List ℕ)) → List (Option Value)
ethernet2_values e fcs =
    Some (Bytes (spelled 6 e.destination)) ∷ Some (Bytes (spelled 6 e.source)) ∷ Some (Protocol e.ether_type)
    ∷ Some (if_some Bytes fcs) ∷ []

-- a VLAN tag (IEEE 802.1Q, 9.6)
abbrev pub vlan_values : VlanValue → List (Option Value)
vlan_values v =
    Some (Number v.pcp) ∷ Some (Number v.dei) ∷ Some (Number v.vid) ∷ Some (Protocol v.ether_type) ∷ []

-- whether the payload of a SecTag was changed or encrypted (IEEE 802.1AE, 9.5)
abbrev pub payload_word : PayloadType → List ℕ
payload_word (payloads.Unmodified ether_type) = codes "unmodified"
payload_word payloads.Modified = codes "modified"
payload_word payloads.EncryptedUnmodified = codes "encrypted_unmodified"
payload_word payloads.Encrypted = codes "encrypted"

abbrev pub payload_type_value : PayloadType → Value
payload_type_value (payloads.Unmodified ether_type) = Protocol ether_type
payload_type_value _ = Nothing

-- the SecTag of MACsec (IEEE 802.1AE, 9.3 to 9.9): V, SC and the reserved bits are no members
abbrev pub macsec_values : SecTagValue → List (Option Value)
macsec_values t =
    Some (Word (payload_word t.payload_type)) ∷ None ∷ Some (Number t.end_station) ∷ None
    ∷ Some (Number t.single_copy_broadcast) ∷ Some (Number (encrypted_of t.payload_type))
    ∷ Some (Number (changed_of t.payload_type)) ∷ Some (Number t.association_number) ∷ None
    ∷ Some (Number t.short_len) ∷ Some (Number t.packet_number)
    ∷ Some (if_some (λ sci. Bytes (spelled 8 sci)) t.sci) ∷ Some (payload_type_value t.payload_type) ∷ []

-- an address of a protocol: of IPv4, or other bytes
abbrev pub protocol_address : (protocol : ℕ) → List ℕ → Value
protocol_address protocol bytes =
    if nat_eq protocol 0x0800 && nat_eq (length bytes) 4 then Dotted bytes else Bytes bytes

-- an ARP packet (RFC 826, "Packet format")
abbrev pub arp_values : ArpValue → List (Option Value)
arp_values a =
    Some (Number a.hardware_type) ∷ Some (Protocol a.protocol_type) ∷ Some (Number (length a.sender_hardware))
    ∷ Some (Number (length a.sender_protocol)) ∷ Some (Number a.operation) ∷ Some (Bytes a.sender_hardware)
    ∷ Some (protocol_address a.protocol_type a.sender_protocol) ∷ Some (Bytes a.target_hardware)
    ∷ Some (protocol_address a.protocol_type a.target_protocol) ∷ []

-- Linux cooked capture v1 (LINKTYPE_LINUX_SLL of the tcpdump group): as much of the address as its length says
abbrev pub linux_sll_values : LinuxSllValue → List (Option Value)
linux_sll_values s =
    Some (Number s.packet_type) ∷ Some (Number s.hardware_type) ∷ Some (Number s.address_len)
    ∷ Some (Bytes (take s.address_len (spelled 8 s.address))) ∷ Some (Protocol s.protocol) ∷ []

-- Linux cooked capture v2 (LINKTYPE_LINUX_SLL2): the reserved bits are no member
abbrev pub linux_sll2_values : LinuxSll2Value → List (Option Value)
linux_sll2_values s =
    Some (Protocol s.protocol) ∷ None ∷ Some (Number s.interface_index) ∷ Some (Number s.hardware_type)
    ∷ Some (Number s.packet_type) ∷ Some (Number s.address_len)
    ∷ Some (Bytes (take s.address_len (spelled 8 s.address))) ∷ []

-- ---- the values of what else a packet tells

-- what is left
abbrev pub rest_values : (start finish : ℕ) → (kind : List ℕ) → (announced : Value) → List (Option Value)
rest_values start finish kind announced =
    Some (Number start) ∷ Some (Number finish) ∷ Some (Word kind) ∷ Some announced ∷ []

abbrev pub direction_word : DirectionValue → List ℕ
direction_word Inbound = codes "inbound"
direction_word Outbound = codes "outbound"

-- the packet itself: its number, time, link type and lengths; its interface, its direction and a comment on it (pcapng,
-- 4.3); and the name of its file
abbrev pub own_packet_values : OriginValue → PacketValue → Option Moment → List (Option Value)
own_packet_values origin p moment =
    Some (Number origin.number) ∷ Some (if_some Time moment) ∷ Some (Number p.link_type)
    ∷ Some (Number (length p.packet)) ∷ Some (Number p.original_len) ∷ Some (if_some Number p.interface)
    ∷ Some (if_some (λ d. Word (direction_word d)) p.direction) ∷ Some (if_some Text p.comment)
    ∷ Some (if_some Text origin.file) ∷ []

-- .. as an object has them
abbrev pub packet_values : OriginValue → PacketValue → Option Moment → List (Option Value)
packet_values origin p moment = own_packet_values origin p moment ++ (None ∷ None ∷ None ∷ [])

abbrev pub packet_members : OriginValue → PacketValue → Option Moment → List Member
packet_members origin p moment = members frame_rows (packet_values origin p moment)

-- .. and as columns, with the minute, the hour and the day of its time
abbrev pub packet_columns : OriginValue → PacketValue → Option Moment → List (Option Value)
packet_columns origin p moment =
    own_packet_values origin p moment
    ++ (Some (if_some (Within intervals.Minute) moment) ∷ Some (if_some (Within intervals.Hour) moment)
    ∷ Some (if_some (Within intervals.Day) moment) ∷ [])
