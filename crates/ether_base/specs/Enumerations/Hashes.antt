-- What the derived `Hash` of a type feeds a hasher: for an enumeration first the place of the variant, then the fields
-- in order.
use Rattle.std.specs.Prelude.{ℕ, pos, ◌++◌, fold}
use Rattle.std.specs.Hash as fed
use Rattle.std.specs.Hash.{HashWrites}
use Rattle.std.specs.Hash.DefaultHasher as sip
use Rattle.ether_base.specs.declared.err.arp.arp_eth_ipv4_from_error.ArpEthIpv4FromError.{ArpEthIpv4FromError}
use Rattle.ether_base.specs.declared.err.arp.arp_eth_ipv4_from_error.ArpEthIpv4FromError.TheVariants.{NonMatchingHwType, NonMatchingProtocolType, NonMatchingHwAddrSize, NonMatchingProtoAddrSize}
use Rattle.ether_base.specs.declared.err.arp.arp_hw_addr_error.ArpHwAddrError.{ArpHwAddrError}
use Rattle.ether_base.specs.declared.err.arp.arp_hw_addr_error.ArpHwAddrError.TheVariants as hw_addr
use Rattle.ether_base.specs.declared.err.arp.arp_new_error.ArpNewError.{ArpNewError}
use Rattle.ether_base.specs.declared.err.arp.arp_new_error.ArpNewError.TheVariants.{HwAddr, ProtoAddr}
use Rattle.ether_base.specs.declared.err.arp.arp_proto_addr_error.ArpProtoAddrError.{ArpProtoAddrError}
use Rattle.ether_base.specs.declared.err.arp.arp_proto_addr_error.ArpProtoAddrError.TheVariants as proto_addr
use Rattle.ether_base.specs.declared.err.layer.Layer.{Layer}
use Rattle.ether_base.specs.declared.err.len_error.LenError.{LenError}
use Rattle.ether_base.specs.declared.err.linux_sll.header_error.HeaderError as linux_sll
use Rattle.ether_base.specs.declared.err.linux_sll.header_error.HeaderError.TheVariants.{UnsupportedPacketTypeField, UnsupportedArpHardwareId}
use Rattle.ether_base.specs.declared.err.macsec.header_error.HeaderError as macsec
use Rattle.ether_base.specs.declared.err.macsec.header_error.HeaderError.TheVariants.{UnexpectedVersion, InvalidUnmodifiedShortLen}
use Rattle.ether_base.specs.declared.err.slice_write_space_error.SliceWriteSpaceError.{SliceWriteSpaceError}
use Rattle.ether_base.specs.declared.err.value_too_big_error.ValueTooBigError.{ValueTooBigError}
use Rattle.ether_base.specs.declared.err.value_type.ValueType.{ValueType}
use Rattle.ether_base.specs.declared.header_slice_error.HeaderSliceError.{HeaderSliceError}
use Rattle.ether_base.specs.declared.header_slice_error.HeaderSliceError.TheVariants.{Len, Content}
use Rattle.ether_base.specs.declared.len_source.LenSource.{LenSource}
use Rattle.ether_base.specs.declared.linux_sll_protocol_type.LinuxSllProtocolType.{LinuxSllProtocolType}
use Rattle.ether_base.specs.Enumerations.Layer.{layer_place}
use Rattle.ether_base.specs.Enumerations.LenSource.{len_source_place}
use Rattle.ether_base.specs.Formats.LinuxSllProtocolType.{protocol_place, protocol_number}
use Rattle.ether_base.specs.Enumerations.ValueType.{value_type_place}

-- the number that the default hasher makes of what it is fed
abbrev pub hashed : HashWrites → ℕ
hashed writes = sip.finish (fold sip.write sip.initial writes)

-- the variant at a place
abbrev pub variant : ℕ → HashWrites
variant place = fed.isize (pos place)

abbrev pub layer_fed : Layer → HashWrites
layer_fed layer = variant (layer_place layer)

abbrev pub len_source_fed : LenSource → HashWrites
len_source_fed source = variant (len_source_place source)

abbrev pub value_type_fed : ValueType → HashWrites
value_type_fed value_type = variant (value_type_place value_type)

abbrev pub protocol_type_fed : LinuxSllProtocolType → HashWrites
protocol_type_fed protocol_type = variant (protocol_place protocol_type) ++ fed.u16 (protocol_number protocol_type)

abbrev pub len_error_fed : LenError → HashWrites
len_error_fed e = fed.usize e.required_len ++ fed.usize e.len ++ len_source_fed e.len_source ++ layer_fed e.layer
    ++ fed.usize e.layer_start_offset

abbrev pub slice_write_space_error_fed : SliceWriteSpaceError → HashWrites
slice_write_space_error_fed e =
    fed.usize e.required_len ++ fed.usize e.len ++ layer_fed e.layer ++ fed.usize e.layer_start_offset

abbrev pub value_too_big_error_fed : (ℕ → HashWrites) → ValueTooBigError ℕ → HashWrites
value_too_big_error_fed number_fed e = number_fed e.actual ++ number_fed e.max_allowed ++ value_type_fed e.value_type

abbrev pub hw_addr_error_fed : ArpHwAddrError → HashWrites
hw_addr_error_fed (hw_addr.LenTooBig len) = variant 0 ++ fed.usize len
hw_addr_error_fed (hw_addr.LenNonMatching sender target) = variant 1 ++ fed.usize sender ++ fed.usize target

abbrev pub proto_addr_error_fed : ArpProtoAddrError → HashWrites
proto_addr_error_fed (proto_addr.LenTooBig len) = variant 0 ++ fed.usize len
proto_addr_error_fed (proto_addr.LenNonMatching sender target) = variant 1 ++ fed.usize sender ++ fed.usize target

abbrev pub arp_new_error_fed : ArpNewError → HashWrites
arp_new_error_fed (HwAddr e) = variant 0 ++ hw_addr_error_fed e
arp_new_error_fed (ProtoAddr e) = variant 1 ++ proto_addr_error_fed e

abbrev pub arp_eth_ipv4_from_error_fed : ArpEthIpv4FromError → HashWrites
arp_eth_ipv4_from_error_fed (NonMatchingHwType hw_type) = variant 0 ++ fed.u16 hw_type.0
arp_eth_ipv4_from_error_fed (NonMatchingProtocolType protocol_type) = variant 1 ++ fed.u16 protocol_type.0
arp_eth_ipv4_from_error_fed (NonMatchingHwAddrSize size) = variant 2 ++ fed.u8 size
arp_eth_ipv4_from_error_fed (NonMatchingProtoAddrSize size) = variant 3 ++ fed.u8 size

abbrev pub linux_sll_header_error_fed : linux_sll.HeaderError → HashWrites
linux_sll_header_error_fed (UnsupportedPacketTypeField packet_type) = variant 0 ++ fed.u16 packet_type
linux_sll_header_error_fed (UnsupportedArpHardwareId hardware) = variant 1 ++ fed.u16 hardware.0

abbrev pub macsec_header_error_fed : macsec.HeaderError → HashWrites
macsec_header_error_fed UnexpectedVersion = variant 0
macsec_header_error_fed InvalidUnmodifiedShortLen = variant 1

abbrev pub header_slice_error_fed : {E : Type 0} → (E → HashWrites) → HeaderSliceError E → HashWrites
header_slice_error_fed content_fed (Len e) = variant 0 ++ len_error_fed e
header_slice_error_fed content_fed (Content e) = variant 1 ++ content_fed e
