-- The formats of the headers as values, sums of powers and bytes, in the order in which they are to be read; then a
-- header of any kind, and the table of refusals.
pub mod Ethernet2
pub mod Vlan
pub mod LinuxSll
pub mod LinuxSllProtocolType
pub mod Macsec
pub mod Arp
pub mod Kind
pub mod Header
pub mod Refusal
pub mod RefusedLen
