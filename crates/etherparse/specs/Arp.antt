-- ARP packets as values and as bytes.
pub use Rattle.ether_base.specs.Formats.Arp.{ArpValue, ArpFront, arp_front_number, FitsArpFront, BeginsArp, arp_len, arp_front_of, bytes_at, IsArp, FitsArp, arp_bytes, arp_front_in, arp_with, arp_of}
pub use Rattle.ether_arp.specs.Arp.{BeginsWithArp, HoldsArp}
