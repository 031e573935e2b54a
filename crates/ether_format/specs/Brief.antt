-- A packet as a line for the eye.
use Rattle.std.specs.Prelude.{ℕ, ◌-◌, ◌%◌, ◌^◌, nat_eq, nat_le, ◌&&◌, List, [], ◌∷◌, ◌++◌, length, take, slice_range, codes, Bool, true, Option, Some, None, if◌then◌else◌}
use Rattle.std.specs.List.{flat_map}
use Rattle.std.specs.Fmt.{decimal}
use Rattle.etherparse.specs.Bytes.{spelled}
use Rattle.etherparse.specs.Ethernet2.{Ethernet2Value}
use Rattle.etherparse.specs.Vlan.{VlanValue}
use Rattle.etherparse.specs.Macsec.{SecTagValue, encrypted_of, changed_of}
use Rattle.etherparse.specs.Arp.{ArpValue}
use Rattle.etherparse.specs.NumberText.{hex_number}
use Rattle.etherparse.specs.Types.Layer.{Layer}
use Rattle.etherparse.specs.Types.Layer.TheVariants as layers
use Rattle.etherparse.specs.Header.{Header}
use Rattle.etherparse.specs.Header as headers
use Rattle.ether_base.specs.Texts.NumberText.{description_in, hex_byte}
use Rattle.ether_fields.specs.Names.{ether_type_names, packet_type_names}
use Rattle.ether_sll2.specs.LinuxSll2.{LinuxSll2Value}
use Rattle.ether_pcap.specs.Capture.{PacketValue}
use Rattle.ether_content.specs.Content.{is_cut}
use Rattle.ether_peel.specs.declared.rest_kind.RestKind.{RestKind}
use Rattle.ether_peel.specs.declared.rest_kind.RestKind.TheVariants as rests
use Rattle.ether_format.specs.declared.moment.Moment.{Moment}
use Rattle.ether_format.specs.Members.{protocol_address}
use Rattle.ether_format.specs.declared.cause.Cause.{Cause}
use Rattle.ether_format.specs.declared.cause.Cause.TheVariants.{Length, UnknownPacketType, UnknownHardwareType, Version, ShortLength}
use Rattle.ether_format.specs.declared.end.End.{End}
use Rattle.ether_format.specs.declared.end.End.TheVariants.{Rest, Skipped, Fault}
use Rattle.ether_format.specs.Told.{Told, Walked, CookedV2, kind_word}
use Rattle.ether_format.specs.Spelling.{colon_text, column_value, date_text, has_date, nine_digits}

-- ---- headers, each after a space

-- the sender, and the station that it sends to
abbrev pub brief_ethernet2 : Ethernet2Value → List ℕ
brief_ethernet2 e =
    codes " " ++ (colon_text (spelled 6 e.source) ++ (codes " > " ++ colon_text (spelled 6 e.destination)))

-- a word that is there or not
abbrev pub word_if : Bool → List ℕ → List ℕ
word_if holds word = if holds then word else []

abbrev pub brief_vlan : VlanValue → List ℕ
brief_vlan v =
    codes " vlan " ++ (decimal v.vid ++ (codes " pcp " ++ (decimal v.pcp ++ word_if (nat_eq v.dei 1) (codes " dei"))))

-- a secure channel: the address of its system, and its port (IEEE 802.1AE, 9.9)
abbrev pub sci_text : Option ℕ → List ℕ
sci_text None = []
sci_text (Some sci) = codes " sci " ++ (colon_text (take 6 (spelled 8 sci)) ++ (codes "/" ++ decimal (sci % 2 ^ 16)))

-- the bits ES, SCB, E and C, each as a word if it is set (IEEE 802.1AE, 9.5)
abbrev pub macsec_bits : SecTagValue → List ℕ
macsec_bits t =
    word_if (nat_eq t.end_station 1) (codes " es")
    ++ (word_if (nat_eq t.single_copy_broadcast 1) (codes " scb")
    ++ (word_if (nat_eq (encrypted_of t.payload_type) 1) (codes " encrypted")
    ++ word_if (nat_eq (changed_of t.payload_type) 1) (codes " changed")))

abbrev pub brief_macsec : SecTagValue → List ℕ
brief_macsec t =
    codes " macsec an "
    ++ (decimal t.association_number
    ++ (codes " pn " ++ (decimal t.packet_number ++ (sci_text t.sci ++ macsec_bits t))))

-- an address of a protocol, of IPv4 with dots
abbrev pub address_text : (protocol : ℕ) → List ℕ → List ℕ
address_text protocol bytes = column_value (protocol_address protocol bytes)

-- who is asked for (RFC 826, "Packet Generation")
abbrev pub arp_request : ArpValue → List ℕ
arp_request a =
    codes " ARP who-has "
    ++ (address_text a.protocol_type a.target_protocol
    ++ (codes " tell " ++ address_text a.protocol_type a.sender_protocol))

-- who answers
abbrev pub arp_reply : ArpValue → List ℕ
arp_reply a =
    codes " ARP reply "
    ++ (address_text a.protocol_type a.sender_protocol ++ (codes " is-at " ++ colon_text a.sender_hardware))

-- another operation
abbrev pub arp_other : ArpValue → List ℕ
arp_other a =
    codes " ARP op "
    ++ (decimal a.operation
    ++ (codes " from " ++ (address_text a.protocol_type a.sender_protocol
    ++ (codes " to " ++ address_text a.protocol_type a.target_protocol))))

-- ares_op$REQUEST is 1, ares_op$REPLY 2 (RFC 826, "Definitions")
abbrev pub brief_arp : ArpValue → List ℕ
brief_arp a =
    if nat_eq a.operation 1 then arp_request a else (if nat_eq a.operation 2 then arp_reply a else arp_other a)

-- how a packet was sent, by its name, or as a number
abbrev pub sent_text : Option (List ℕ) → ℕ → List ℕ
sent_text (Some name) n = name
sent_text None n = codes "type " ++ decimal n

unfoldable pub packet_type_text : ℕ → List ℕ
packet_type_text n = sent_text (description_in packet_type_names n) n

-- a cooked header: how the packet was sent, and the sender's address
abbrev pub cooked_text : (packet_type : ℕ) → (address : List ℕ) → List ℕ
cooked_text packet_type address =
    codes " cooked " ++ (packet_type_text packet_type ++ (codes " from " ++ colon_text address))

abbrev pub brief_cooked : (packet_type len address : ℕ) → List ℕ
brief_cooked packet_type len address = cooked_text packet_type (take len (spelled 8 address))

abbrev pub brief_header : Header → List ℕ
brief_header (headers.Ethernet2 e) = brief_ethernet2 e
brief_header (headers.Ethernet2Fcs e) = brief_ethernet2 e
brief_header (headers.LinuxSll s) = brief_cooked s.packet_type s.address_len s.address
brief_header (headers.Vlan v) = brief_vlan v
brief_header (headers.Macsec t) = brief_macsec t
brief_header (headers.Arp a) = brief_arp a

abbrev pub brief_cooked_v2 : LinuxSll2Value → List ℕ
brief_cooked_v2 s = codes " if " ++ (decimal s.interface_index ++ brief_cooked s.packet_type s.address_len s.address)

abbrev pub brief_told : Told → List ℕ
brief_told (Walked place h fcs) = brief_header h
brief_told (CookedV2 place s) = brief_cooked_v2 s

-- ---- the end

abbrev pub name_or_number : Option (List ℕ) → ℕ → List ℕ
name_or_number (Some name) t = name
name_or_number None t = hex_number t

-- an ether type by its name, or as a number
unfoldable pub type_text : ℕ → List ℕ
type_text t = name_or_number (description_in ether_type_names t) t

-- both addresses of LLC are this one
abbrev pub are_both : (dsap ssap sap : ℕ) → Bool
are_both dsap ssap sap = nat_eq dsap sap && nat_eq ssap sap

abbrev pub other_saps : (dsap ssap : ℕ) → List ℕ
other_saps dsap ssap = codes " LLC dsap 0x" ++ (hex_byte true dsap ++ (codes " ssap 0x" ++ hex_byte true ssap))

-- the addresses of LLC (ISO/IEC 8802-2, 3.2): 0x42 is that of the spanning tree (IEEE 802.1Q, 8.13.3), 0xAA that of
-- SNAP (RFC 1042, "Header Format")
abbrev pub saps_text : (dsap ssap : ℕ) → List ℕ
saps_text dsap ssap =
    if are_both dsap ssap 0x42 then codes " STP"
    else (if are_both dsap ssap 0xAA then codes " SNAP" else other_saps dsap ssap)

-- client data begins with the two addresses of LLC, if both are there
unfoldable pub llc_text : List ℕ → List ℕ
llc_text (dsap ∷ ssap ∷ more) = saps_text dsap ssap
llc_text _ = []

-- a length, and what the bytes that it counts begin with
abbrev pub counted_text : ℕ → (rest : List ℕ) → List ℕ
counted_text n rest = codes "802.3 len " ++ (decimal n ++ llc_text (take n rest))

-- A number of at most 1500 is a length and not a type (IEEE 802.3, 3.2.6), in a frame of Ethernet (link type 1).
abbrev pub is_length : PacketValue → ℕ → Bool
is_length p n = nat_le n 1500 && nat_eq p.link_type 1

abbrev pub announced_text : PacketValue → ℕ → (rest : List ℕ) → List ℕ
announced_text p n rest = if is_length p n then counted_text n rest else type_text n

-- what is left, and its length; the padding after an ARP packet is left out
abbrev pub brief_rest : PacketValue → (start finish : ℕ) → RestKind → List ℕ
brief_rest p start finish rests.AfterArp = []
brief_rest p start finish (rests.EtherType t) =
    codes " "
    ++ (announced_text p t.0 (slice_range p.packet start finish)
    ++ (codes " " ++ (decimal (finish - start) ++ codes " bytes")))
brief_rest p start finish kind =
    codes " " ++ (kind_word kind ++ (codes " " ++ (decimal (finish - start) ++ codes " bytes")))

-- what was cut: a header, or a SecTag with the payload whose length it gives (IEEE 802.1AE, 9.7). The walk reads no
-- other layer.
abbrev pub layer_word : Layer → List ℕ
layer_word layers.Ethernet2Header = codes "Ethernet II "
layer_word layers.LinuxSllHeader = codes "cooked header "
layer_word layers.VlanHeader = codes "vlan "
layer_word layers.MacsecHeader = codes "macsec "
layer_word layers.MacsecPacket = codes "macsec packet "
layer_word layers.Arp = codes "ARP "
layer_word _ = []

abbrev pub lengths_text : Layer → (required available : ℕ) → List ℕ
lengths_text layer required available =
    layer_word layer ++ (codes "needs " ++ (decimal required ++ (codes " bytes, has " ++ decimal available)))

abbrev pub brief_cause : Cause → List ℕ
brief_cause (Length required available source layer) = lengths_text layer required available
brief_cause (UnknownPacketType n) = codes "packet type " ++ decimal n
brief_cause (UnknownHardwareType n) = codes "hardware type " ++ decimal n
brief_cause Version = codes "version 1 of MACsec"
brief_cause ShortLength = codes "short length 1"

abbrev pub fault_text : (start : ℕ) → Cause → List ℕ
fault_text start cause = codes " fault at " ++ (decimal start ++ (codes ": " ++ brief_cause cause))

abbrev pub brief_end : PacketValue → End → List ℕ
brief_end p (Rest start finish kind) = brief_rest p start finish kind
brief_end p (Skipped len) = codes " skipped " ++ (decimal len ++ codes " bytes")
brief_end p (Fault start closed cause) = fault_text start cause

-- ---- the packet

-- six decimals, or nine if the last three are not 0
abbrev pub fraction_text : ℕ → List ℕ
fraction_text n = if nat_eq (n % 1000) 0 then take 6 (nine_digits n) else nine_digits n

abbrev pub brief_moment : Moment → List ℕ
brief_moment m =
    if has_date m then date_text m ++ (codes "." ++ (fraction_text m.nanoseconds ++ codes "Z"))
    else decimal m.seconds ++ (codes "." ++ fraction_text m.nanoseconds)

abbrev pub brief_time : Option Moment → List ℕ
brief_time None = codes "-"
brief_time (Some m) = brief_moment m

-- how much of it was captured, if that is not all
abbrev pub brief_cut : PacketValue → List ℕ
brief_cut p =
    if is_cut p then codes " ("
    ++ (decimal (length p.packet) ++ (codes " of " ++ (decimal p.original_len ++ codes " bytes)"))) else []

-- the number and the time
abbrev pub brief_front : ℕ → Option Moment → List ℕ
brief_front number moment = decimal number ++ (codes " " ++ brief_time moment)

abbrev pub brief_line : ℕ → PacketValue → Option Moment → List Told → End → List ℕ
brief_line number p moment headers end =
    brief_front number moment ++ (flat_map brief_told headers ++ (brief_end p end ++ (brief_cut p ++ codes "\n")))
