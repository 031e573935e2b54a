-- Ethernet II: headers as values and as bytes, and frames.
pub use Rattle.ether_base.specs.Formats.Ethernet2.{Ethernet2Value, ethernet2_number, FitsEthernet2, IsEthernet2, ethernet2_bytes, ethernet2_of}
pub use Rattle.ether_tags.specs.Ethernet2.{ethernet2_value, ethernet2_view, ethernet2_header_of, Frame, fcs_len, payload_of, fcs_of}
