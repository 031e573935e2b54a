pub mod LinuxSll2
pub mod Views
pub mod Laws
pub mod Texts
