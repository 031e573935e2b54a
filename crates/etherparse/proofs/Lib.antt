-- Lemmas on what the contracts of the public calls cite.
pub use Rattle.ether_base.proofs.Numbers
pub use Rattle.ether_base.proofs.SubLists
pub use Rattle.ether_base.proofs.ArrayElements
pub use Rattle.ether_base.proofs.Values
pub use Rattle.ether_base.proofs.Rows
pub use Rattle.ether_base.proofs.Means
pub use Rattle.ether_base.proofs.ReadBack
pub use Rattle.ether_base.proofs.Ethernet2Fields
pub use Rattle.ether_base.proofs.VlanFields
pub use Rattle.ether_base.proofs.MacsecFields
pub use Rattle.ether_base.proofs.LinuxSllFields
pub use Rattle.ether_arp.proofs.Reading
pub use Rattle.ether_arp.proofs.Refusals
pub use Rattle.ether_arp.proofs.Writing
