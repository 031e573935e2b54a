pub mod DecimalLemmas
pub mod HexLemmas
pub mod KnownBytesLemmas
pub mod OutputBufferLemmas
