-- The types of the public calls, for definitions that name them.
pub use Rattle.ether_base.specs.declared.ether_type.EtherType
pub use Rattle.ether_base.specs.declared.arp_hardware_id.ArpHardwareId
pub use Rattle.ether_base.specs.declared.linux_sll_protocol_type.LinuxSllProtocolType
pub use Rattle.ether_base.specs.declared.len_source.LenSource
pub use Rattle.ether_base.specs.declared.err.layer.Layer
pub use Rattle.ether_base.specs.declared.err.len_error.LenError
pub use Rattle.ether_base.specs.declared.err.slice_write_space_error.SliceWriteSpaceError
pub use Rattle.ether_base.specs.declared.err.linux_sll.header_error.HeaderError as LinuxSllHeaderError
pub use Rattle.ether_base.specs.declared.err.macsec.header_error.HeaderError as MacsecHeaderError
pub use Rattle.ether_tags.specs.declared.macsec_header_slice.MacsecHeaderSlice
pub use Rattle.ether_tags.specs.declared.macsec_payload_slice.MacsecPayloadSlice
pub use Rattle.ether_tags.specs.declared.macsec_slice.MacsecSlice
pub use Rattle.ether_tags.specs.declared.link_ext_slice.LinkExtSlice
pub use Rattle.ether_sll.specs.declared.link_slice.LinkSlice
pub use Rattle.ether_tags.specs.declared.ether_payload_slice.EtherPayloadSlice
pub use Rattle.ether_tags.specs.declared.vlan_slice.VlanSlice
pub use Rattle.ether_tags.specs.declared.double_vlan_slice.DoubleVlanSlice
pub use Rattle.ether_tags.specs.declared.link_ext_header.LinkExtHeader
pub use Rattle.ether_sll.specs.declared.link_header.LinkHeader
