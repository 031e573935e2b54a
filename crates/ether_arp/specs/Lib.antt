pub mod Arp
pub mod ArpAddresses
pub mod ArpEthIpv4
pub mod ArpLaws
