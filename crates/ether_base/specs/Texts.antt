-- The texts of numbers and errors.
pub mod NumberText
pub mod LengthErrors
pub mod HeaderSliceError
pub mod MacsecErrors
pub mod LinuxSllErrors
pub mod ArpErrors
