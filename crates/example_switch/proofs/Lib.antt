pub mod Joined
pub mod Answered
pub mod Numbered
