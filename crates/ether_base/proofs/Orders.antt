-- The derived orders of the enumerations: for each first value, whatever the second one is.
use Rattle.std.proofs.Common.{rules, ◌≡◌}
use Rattle.std.specs.Ordering.{nat_cmp, on, then_cmp}
use Rattle.ether_base.specs.declared.err.layer.Layer.{Layer}
use Rattle.ether_base.specs.declared.err.layer.Layer.TheVariants as layers
use Rattle.ether_base.specs.declared.err.value_type.ValueType.{ValueType}
use Rattle.ether_base.specs.declared.err.value_type.ValueType.TheVariants as value_types
use Rattle.ether_base.specs.declared.len_source.LenSource.{LenSource}
use Rattle.ether_base.specs.declared.len_source.LenSource.TheVariants as len_sources
use Rattle.ether_base.specs.declared.linux_sll_protocol_type.LinuxSllProtocolType.{LinuxSllProtocolType}
use Rattle.ether_base.specs.declared.linux_sll_protocol_type.LinuxSllProtocolType.TheVariants as protocol_types
use Rattle.ether_base.specs.Enumerations.Layer.{layer_place}
use Rattle.ether_base.specs.Enumerations.ValueType.{value_type_place}
use Rattle.ether_base.specs.Enumerations.LenSource.{len_source_place}
use Rattle.ether_base.specs.Formats.LinuxSllProtocolType.{protocol_place, protocol_number}
use Rattle.ether_base.specs.Enumerations.Orders.{layer_cmp, value_type_cmp, len_source_cmp, protocol_type_cmp}

pub layers_by_place : (a b : Layer) → layer_cmp a b ≡ on layer_place nat_cmp a b
layers_by_place layers.LinuxSllHeader = search rules
layers_by_place layers.Ethernet2Header = search rules
layers_by_place layers.EtherPayload = search rules
layers_by_place layers.VlanHeader = search rules
layers_by_place layers.MacsecHeader = search rules
layers_by_place layers.MacsecPacket = search rules
layers_by_place layers.IpHeader = search rules
layers_by_place layers.Ipv4Header = search rules
layers_by_place layers.Ipv4Packet = search rules
layers_by_place layers.IpAuthHeader = search rules
layers_by_place layers.Ipv6Header = search rules
layers_by_place layers.Ipv6Packet = search rules
layers_by_place layers.Ipv6ExtHeader = search rules
layers_by_place layers.Ipv6HopByHopHeader = search rules
layers_by_place layers.Ipv6DestOptionsHeader = search rules
layers_by_place layers.Ipv6RouteHeader = search rules
layers_by_place layers.Ipv6FragHeader = search rules
layers_by_place layers.UdpHeader = search rules
layers_by_place layers.UdpPayload = search rules
layers_by_place layers.TcpHeader = search rules
layers_by_place layers.Icmpv4 = search rules
layers_by_place layers.Icmpv4Timestamp = search rules
layers_by_place layers.Icmpv4TimestampReply = search rules
layers_by_place layers.Icmpv6 = search rules
layers_by_place layers.Arp = search rules

pub value_types_by_place : (a b : ValueType) → value_type_cmp a b ≡ on value_type_place nat_cmp a b
value_types_by_place value_types.VlanId = search rules
value_types_by_place value_types.VlanPcp = search rules
value_types_by_place value_types.MacsecAn = search rules
value_types_by_place value_types.MacsecShortLen = search rules
value_types_by_place value_types.IpFragmentOffset = search rules
value_types_by_place value_types.IpDscp = search rules
value_types_by_place value_types.IpEcn = search rules
value_types_by_place value_types.Ipv6FlowLabel = search rules
value_types_by_place value_types.Ipv4PayloadLength = search rules
value_types_by_place value_types.Ipv6PayloadLength = search rules
value_types_by_place value_types.UdpPayloadLengthIpv4 = search rules
value_types_by_place value_types.UdpPayloadLengthIpv6 = search rules
value_types_by_place value_types.TcpPayloadLengthIpv4 = search rules
value_types_by_place value_types.TcpPayloadLengthIpv6 = search rules
value_types_by_place value_types.Icmpv6PayloadLength = search rules
value_types_by_place value_types.LinuxSllType = search rules

pub len_sources_by_place : (a b : LenSource) → len_source_cmp a b ≡ on len_source_place nat_cmp a b
len_sources_by_place len_sources.Slice = search rules
len_sources_by_place len_sources.MacsecShortLength = search rules
len_sources_by_place len_sources.Ipv4HeaderTotalLen = search rules
len_sources_by_place len_sources.Ipv6HeaderPayloadLen = search rules
len_sources_by_place len_sources.UdpHeaderLen = search rules
len_sources_by_place len_sources.TcpHeaderLen = search rules
len_sources_by_place len_sources.ArpAddrLengths = search rules

pub protocol_types_by_place : (a b : LinuxSllProtocolType)
    → protocol_type_cmp a b ≡ then_cmp (on protocol_place nat_cmp) (on protocol_number nat_cmp) a b
protocol_types_by_place (protocol_types.Ignored number) = search rules
protocol_types_by_place (protocol_types.NetlinkProtocolType number) = search rules
protocol_types_by_place (protocol_types.GenericRoutingEncapsulationProtocolType number) = search rules
protocol_types_by_place (protocol_types.EtherType number) = search rules
protocol_types_by_place (protocol_types.LinuxNonstandardEtherType number) = search rules
