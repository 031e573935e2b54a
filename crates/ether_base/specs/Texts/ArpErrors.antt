-- The texts of the errors of ARP packets.
use Rattle.std.specs.Prelude.{ℕ, List, ◌++◌, codes}
use Rattle.std.specs.Fmt.{decimal}
use Rattle.ether_base.specs.declared.err.arp.arp_hw_addr_error.ArpHwAddrError.{ArpHwAddrError}
use Rattle.ether_base.specs.declared.err.arp.arp_hw_addr_error.ArpHwAddrError.TheVariants as hw
use Rattle.ether_base.specs.declared.err.arp.arp_proto_addr_error.ArpProtoAddrError.{ArpProtoAddrError}
use Rattle.ether_base.specs.declared.err.arp.arp_proto_addr_error.ArpProtoAddrError.TheVariants as proto
use Rattle.ether_base.specs.declared.err.arp.arp_new_error.ArpNewError.{ArpNewError}
use Rattle.ether_base.specs.declared.err.arp.arp_new_error.ArpNewError.TheVariants.{HwAddr, ProtoAddr}
use Rattle.ether_base.specs.declared.err.arp.arp_eth_ipv4_from_error.ArpEthIpv4FromError.{ArpEthIpv4FromError}
use Rattle.ether_base.specs.declared.err.arp.arp_eth_ipv4_from_error.ArpEthIpv4FromError.TheVariants.{NonMatchingHwType, NonMatchingProtocolType, NonMatchingHwAddrSize, NonMatchingProtoAddrSize}
use Rattle.ether_base.specs.Enumerations.ArpHardwareId.{shown_arp_hardware_id}
use Rattle.ether_base.specs.Enumerations.EtherType.{shown_ether_type}

abbrev pub arp_hw_addr_error_text : ArpHwAddrError → List ℕ
arp_hw_addr_error_text (hw.LenTooBig len) =
    codes "ARP Hardware Address Error: Given hardware address has a length of "
    ++ (decimal len ++ codes " which is greater then the maximum of 255.")
arp_hw_addr_error_text (hw.LenNonMatching sender target) =
    codes "ARP Hardware Address Error: Given sender & target hardware addresses have differing lengths of "
    ++ (decimal sender ++ (codes " & " ++ (decimal target ++ codes " (must be matching).")))

abbrev pub arp_proto_addr_error_text : ArpProtoAddrError → List ℕ
arp_proto_addr_error_text (proto.LenTooBig len) =
    codes "ARP Protocol Address Error: Given protocol address has a length of "
    ++ (decimal len ++ codes " which is greater then the maximum of 255.")
arp_proto_addr_error_text (proto.LenNonMatching sender target) =
    codes "ARP Protocol Address Error: Given sender & target protocol addresses have differing lengths of "
    ++ (decimal sender ++ (codes " & " ++ (decimal target ++ codes " (must be matching).")))

abbrev pub arp_new_error_text : ArpNewError → List ℕ
arp_new_error_text (HwAddr error) = arp_hw_addr_error_text error
arp_new_error_text (ProtoAddr error) = arp_proto_addr_error_text error

abbrev pub arp_eth_ipv4_from_error_text : ArpEthIpv4FromError → List ℕ
arp_eth_ipv4_from_error_text (NonMatchingHwType hw_type) =
    codes "Hardware address type is expected to have the type '1 (Ethernet)' but is '"
    ++ (shown_arp_hardware_id hw_type.0 ++ codes "'")
arp_eth_ipv4_from_error_text (NonMatchingProtocolType protocol_type) =
    codes "Protocol address type is expected to have the type '0x0800 (Internet Protocol version 4 (IPv4))' but is '"
    ++ (shown_ether_type protocol_type.0 ++ codes "'")
arp_eth_ipv4_from_error_text (NonMatchingHwAddrSize size) =
    codes "Hardware address size is expected to be 6 but is " ++ decimal size
arp_eth_ipv4_from_error_text (NonMatchingProtoAddrSize size) =
    codes "Protocol address size is expected to be 4 but is " ++ decimal size
