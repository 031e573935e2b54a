pub mod LinuxSll
pub mod Link
