-- Lemmas and laws of the wire grammar.
pub mod Windows
pub mod CheckSequence
pub mod Announced
pub mod Stacks
pub mod LongerBytes
pub mod Carrying
pub mod Places
pub mod HeaderBytes
pub mod Cleared
pub mod Extensions
pub mod Cuts
pub mod Demands
pub mod Caps
pub mod Fill
pub mod Completed
pub mod WorkedExamples
