pub mod Rows
pub mod Fields
pub mod Names
pub mod Places
pub mod Units
pub mod FieldValues
pub mod Laws
