pub mod Lines
pub mod ViewLines
pub mod WalkText
pub mod InputReader
pub mod Verdict
pub mod Arguments
pub mod Run
pub mod Tool
