-- The tables of numbers with names, the ranges of bounded fields, and the order and the hashes of both.
pub mod EtherType
pub mod ArpHardwareId
pub mod LinuxNonstandardEtherType
pub mod LinuxSllPacketType
pub mod LenSource
pub mod Layer
pub mod ValueType
pub mod BoundedField
pub mod Orders
pub mod Hashes
