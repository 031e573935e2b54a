pub mod Ethernet2
pub mod Vlan
pub mod Macsec
pub mod LinkExt
pub mod Hashes
