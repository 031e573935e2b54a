pub mod LinuxSll2Fields
pub mod LinuxSll2Laws
