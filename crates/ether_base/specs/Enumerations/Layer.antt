-- How layers are named in errors, and their order.
use Rattle.std.specs.Prelude.{ℕ, List, codes}
use Rattle.ether_base.specs.declared.err.layer.Layer.{Layer}
use Rattle.ether_base.specs.declared.err.layer.Layer.TheVariants.{LinuxSllHeader, Ethernet2Header, EtherPayload, VlanHeader, MacsecHeader, MacsecPacket, IpHeader, Ipv4Header, Ipv4Packet, IpAuthHeader, Ipv6Header, Ipv6Packet, Ipv6ExtHeader, Ipv6HopByHopHeader, Ipv6DestOptionsHeader, Ipv6RouteHeader, Ipv6FragHeader, UdpHeader, UdpPayload, TcpHeader, Icmpv4, Icmpv4Timestamp, Icmpv4TimestampReply, Icmpv6, Arp}

-- how a layer is named: the title of its errors, and its name within a text
pub record LayerTexts : Type 0 where
  pub title : List ℕ
  pub name : List ℕ

abbrev pub layer_texts : Layer → LayerTexts
layer_texts LinuxSllHeader =
    record { title = codes "Linux Cooked Capture v1 Error"; name = codes "Linux Cooked Capture v1 header" }
layer_texts Ethernet2Header = record { title = codes "Ethernet 2 Header Error"; name = codes "Ethernet 2 header" }
layer_texts EtherPayload = record { title = codes "Payload with Ether Type Error"; name = codes "Ether type payload" }
layer_texts VlanHeader = record { title = codes "VLAN Header Error"; name = codes "VLAN header" }
layer_texts MacsecHeader = record { title = codes "MACsec Header Error"; name = codes "MACsec header" }
layer_texts MacsecPacket = record { title = codes "MACsec Packet Error"; name = codes "MACsec packet" }
layer_texts IpHeader = record { title = codes "IP Header Error"; name = codes "IP header" }
layer_texts Ipv4Header = record { title = codes "IPv4 Header Error"; name = codes "IPv4 header" }
layer_texts Ipv4Packet = record { title = codes "IPv4 Packet Error"; name = codes "IPv4 packet" }
layer_texts IpAuthHeader =
    record { title = codes "IP Authentication Header Error"; name = codes "IP Authentication header" }
layer_texts Ipv6Header = record { title = codes "IPv6 Header Error"; name = codes "IPv6 header" }
layer_texts Ipv6Packet = record { title = codes "IPv6 Packet Error"; name = codes "IPv6 packet" }
layer_texts Ipv6ExtHeader = record { title = codes "IPv6 Extension Header Error"; name = codes "IPv6 extension header" }
layer_texts Ipv6HopByHopHeader =
    record { title = codes "IPv6 Hop-by-Hop Option Header Error"; name = codes "IPv6 hop-by-hop option header" }
layer_texts Ipv6DestOptionsHeader =
    record { title = codes "IPv6 Destination Options Header Error"; name = codes "IPv6 destination options header" }
layer_texts Ipv6RouteHeader = record { title = codes "IPv6 Routing Header Error"; name = codes "IPv6 routing header" }
layer_texts Ipv6FragHeader = record { title = codes "IPv6 Fragment Header Error"; name = codes "IPv6 fragment header" }
layer_texts UdpHeader = record { title = codes "UDP Header Error"; name = codes "UDP header" }
layer_texts UdpPayload = record { title = codes "UDP Payload Error"; name = codes "UDP payload" }
layer_texts TcpHeader = record { title = codes "TCP Header Error"; name = codes "TCP header" }
layer_texts Icmpv4 = record { title = codes "ICMP Packet Error"; name = codes "ICMP packet" }
layer_texts Icmpv4Timestamp = record { title = codes "ICMP Timestamp Error"; name = codes "ICMP timestamp message" }
layer_texts Icmpv4TimestampReply =
    record { title = codes "ICMP Timestamp Reply Error"; name = codes "ICMP timestamp reply message" }
layer_texts Icmpv6 = record { title = codes "ICMPv6 Packet Error"; name = codes "ICMPv6 packet" }
layer_texts Arp =
    record {
      title = codes "Address Resolution Protocol Packet Error";
      name = codes "Address Resolution Protocol packet";
    }

abbrev pub layer_title : Layer → List ℕ
layer_title layer = (layer_texts layer).title

abbrev pub layer_name : Layer → List ℕ
layer_name layer = (layer_texts layer).name

-- the places of the layers in their order
abbrev pub layer_place : Layer → ℕ
layer_place LinuxSllHeader = 0
layer_place Ethernet2Header = 1
layer_place EtherPayload = 2
layer_place VlanHeader = 3
layer_place MacsecHeader = 4
layer_place MacsecPacket = 5
layer_place IpHeader = 6
layer_place Ipv4Header = 7
layer_place Ipv4Packet = 8
layer_place IpAuthHeader = 9
layer_place Ipv6Header = 10
layer_place Ipv6Packet = 11
layer_place Ipv6ExtHeader = 12
layer_place Ipv6HopByHopHeader = 13
layer_place Ipv6DestOptionsHeader = 14
layer_place Ipv6RouteHeader = 15
layer_place Ipv6FragHeader = 16
layer_place UdpHeader = 17
layer_place UdpPayload = 18
layer_place TcpHeader = 19
layer_place Icmpv4 = 20
layer_place Icmpv4Timestamp = 21
layer_place Icmpv4TimestampReply = 22
layer_place Icmpv6 = 23
layer_place Arp = 24
