-- The names of numbers, for each kind of field that has names. `python3 fields.py` writes them in Rust.
use Rattle.std.specs.Prelude.{ℕ, List, [], ◌∷◌, codes}
use Rattle.ether_fields.specs.declared.kind.Kind.{Kind}
use Rattle.ether_fields.specs.declared.kind.Kind.TheVariants.{EtherType, HardwareType, PacketType, Operation, LinkType}

-- ether types, by their protocols (the EtherType registry of the IEEE)
abbrev pub ether_type_names : List (ℕ × List ℕ)
ether_type_names =
    (0x0800, codes "IPv4")
    ∷ (0x0806, codes "ARP")
    ∷ (0x0842, codes "Wake-on-LAN")
    ∷ (0x8035, codes "RARP")
    ∷ (0x8100, codes "VLAN tag")
    ∷ (0x86DD, codes "IPv6")
    ∷ (0x8808, codes "flow control")
    ∷ (0x8809, codes "slow protocols")
    ∷ (0x8847, codes "MPLS")
    ∷ (0x8848, codes "MPLS, multicast")
    ∷ (0x8863, codes "PPPoE discovery")
    ∷ (0x8864, codes "PPPoE")
    ∷ (0x888E, codes "EAPOL")
    ∷ (0x88A8, codes "service VLAN tag")
    ∷ (0x88CC, codes "LLDP")
    ∷ (0x88E5, codes "MACsec")
    ∷ (0x88F7, codes "PTP")
    ∷ (0x8906, codes "FCoE")
    ∷ (0x892F, codes "HSR")
    ∷ (0x9100, codes "VLAN tag")
    ∷ []

-- hardware types (the ARP Parameters of IANA); from 512 on those that Linux adds (ARPHRD_)
abbrev pub hardware_type_names : List (ℕ × List ℕ)
hardware_type_names =
    (1, codes "Ethernet")
    ∷ (512, codes "PPP")
    ∷ (768, codes "IP tunnel")
    ∷ (772, codes "loopback")
    ∷ (776, codes "IPv6 in IPv4")
    ∷ (778, codes "GRE over IP")
    ∷ (801, codes "IEEE 802.11")
    ∷ (803, codes "IEEE 802.11 with radiotap")
    ∷ (824, codes "netlink")
    ∷ []

-- packet types of cooked captures (LINKTYPE_LINUX_SLL of the tcpdump group)
abbrev pub packet_type_names : List (ℕ × List ℕ)
packet_type_names =
    (0, codes "to us")
    ∷ (1, codes "broadcast")
    ∷ (2, codes "multicast")
    ∷ (3, codes "to someone else")
    ∷ (4, codes "sent by us")
    ∷ []

-- operations of ARP (RFC 826, "Definitions": ares_op$REQUEST, ares_op$REPLY)
abbrev pub operation_names : List (ℕ × List ℕ)
operation_names =
    (1, codes "request")
    ∷ (2, codes "reply")
    ∷ []

-- link types of captures (the LINKTYPE_ values of the tcpdump group)
abbrev pub link_type_names : List (ℕ × List ℕ)
link_type_names =
    (1, codes "Ethernet")
    ∷ (113, codes "Linux cooked capture v1")
    ∷ (276, codes "Linux cooked capture v2")
    ∷ []

-- the numbers of a kind of field that have names, with these
abbrev pub names_of : Kind → List (ℕ × List ℕ)
names_of EtherType = ether_type_names
names_of HardwareType = hardware_type_names
names_of PacketType = packet_type_names
names_of Operation = operation_names
names_of LinkType = link_type_names
names_of _ = []
