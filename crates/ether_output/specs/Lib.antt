pub mod Decimals
pub mod HexText
pub mod OutputBuffer
pub mod Words
