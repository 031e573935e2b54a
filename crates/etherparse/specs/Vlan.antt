-- VLAN tags as values and as bytes, one or two of them.
pub use Rattle.ether_base.specs.Formats.Vlan.{vlan_ether_types, is_vlan_ether_type, VlanValue, vlan_number, FitsVlan, IsVlan, vlan_bytes, vlan_of}
pub use Rattle.ether_tags.specs.Vlan.{vlan_view, header_tags, slice_tags, next_type, innermost}
