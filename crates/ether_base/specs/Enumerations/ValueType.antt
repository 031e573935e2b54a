-- How fields are named in errors, and their order.
use Rattle.std.specs.Prelude.{ℕ, List, codes}
use Rattle.ether_base.specs.declared.err.value_type.ValueType.{ValueType}
use Rattle.ether_base.specs.declared.err.value_type.ValueType.TheVariants.{VlanId, VlanPcp, MacsecAn, MacsecShortLen, IpFragmentOffset, IpDscp, IpEcn, Ipv6FlowLabel, Ipv4PayloadLength, Ipv6PayloadLength, UdpPayloadLengthIpv4, UdpPayloadLengthIpv6, TcpPayloadLengthIpv4, TcpPayloadLengthIpv6, Icmpv6PayloadLength, LinuxSllType}

-- how a field is named within a text
abbrev pub value_type_name : ValueType → List ℕ
value_type_name VlanId = codes "VLAN ID"
value_type_name VlanPcp = codes "VLAN PCP (Priority Code Point)"
value_type_name MacsecAn = codes "MACsec AN (Association Number)"
value_type_name MacsecShortLen = codes "MACsec SL (Short Length)"
value_type_name IpFragmentOffset = codes "IP Fragment Offset"
value_type_name IpDscp = codes "IPv4 DSCP (Differentiated Services Code Point)"
value_type_name IpEcn = codes "IPv4 ECN (Explicit Congestion Notification)"
value_type_name Ipv6FlowLabel = codes "IPv6 Flow Label"
value_type_name Ipv4PayloadLength = codes "IPv4 Header 'Payload Length' (sets 'Total Length')"
value_type_name Ipv6PayloadLength = codes "IPv6 Header 'Payload Length'"
value_type_name UdpPayloadLengthIpv4 = codes "UDP Payload Length (in IPv4 checksum calculation)"
value_type_name UdpPayloadLengthIpv6 = codes "UDP Payload Length (in IPv6 checksum calculation)"
value_type_name TcpPayloadLengthIpv4 = codes "TCP Payload Length (in IPv4 checksum calculation)"
value_type_name TcpPayloadLengthIpv6 = codes "TCP Payload Length (in IPv6 checksum calculation)"
value_type_name Icmpv6PayloadLength = codes "ICMPv6 Payload Length"
value_type_name LinuxSllType = codes "Linux Cooked Capture v1 (SLL)"

-- the places of the kinds of value in their order
abbrev pub value_type_place : ValueType → ℕ
value_type_place VlanId = 0
value_type_place VlanPcp = 1
value_type_place MacsecAn = 2
value_type_place MacsecShortLen = 3
value_type_place IpFragmentOffset = 4
value_type_place IpDscp = 5
value_type_place IpEcn = 6
value_type_place Ipv6FlowLabel = 7
value_type_place Ipv4PayloadLength = 8
value_type_place Ipv6PayloadLength = 9
value_type_place UdpPayloadLengthIpv4 = 10
value_type_place UdpPayloadLengthIpv6 = 11
value_type_place TcpPayloadLengthIpv4 = 12
value_type_place TcpPayloadLengthIpv6 = 13
value_type_place Icmpv6PayloadLength = 14
value_type_place LinuxSllType = 15
