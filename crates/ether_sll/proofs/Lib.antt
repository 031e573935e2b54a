pub mod LinuxSllFields
