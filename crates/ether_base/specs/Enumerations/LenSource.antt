-- How sources of lengths are named in errors, and their order.
use Rattle.std.specs.Prelude.{ℕ, List, codes}
use Rattle.ether_base.specs.declared.len_source.LenSource.{LenSource}
use Rattle.ether_base.specs.declared.len_source.LenSource.TheVariants.{Slice, MacsecShortLength, Ipv4HeaderTotalLen, Ipv6HeaderPayloadLen, UdpHeaderLen, TcpHeaderLen, ArpAddrLengths}

-- how the source of a length is named within a text
abbrev pub len_source_name : LenSource → List ℕ
len_source_name Slice = codes "slice length"
len_source_name MacsecShortLength = codes "length calculated from the MACsec header 'short length' field"
len_source_name Ipv4HeaderTotalLen = codes "length calculated from the IPv4 header 'total length' field"
len_source_name Ipv6HeaderPayloadLen = codes "length calculated from the IPv6 header 'payload length' field"
len_source_name UdpHeaderLen = codes "length calculated from the UDP header 'length' field"
len_source_name TcpHeaderLen = codes "length calculated from the TCP header 'length' field"
len_source_name ArpAddrLengths = codes "length calculated from the ARP 'hw_addr_size' & 'proto_addr_size' fields"

-- the places of the sources in their order
abbrev pub len_source_place : LenSource → ℕ
len_source_place Slice = 0
len_source_place MacsecShortLength = 1
len_source_place Ipv4HeaderTotalLen = 2
len_source_place Ipv6HeaderPayloadLen = 3
len_source_place UdpHeaderLen = 4
len_source_place TcpHeaderLen = 5
len_source_place ArpAddrLengths = 6
