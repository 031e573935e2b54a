pub mod Bytes
pub mod Formats
pub mod Enumerations
pub mod Texts
pub mod Laws
pub mod WriteFront
