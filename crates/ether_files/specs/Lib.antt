pub mod Faults
pub mod Copies
