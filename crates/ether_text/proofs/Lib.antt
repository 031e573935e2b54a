pub mod WriteHexLemmas
pub mod InputReaderLemmas
pub mod RunLemmas
pub mod ViewLinesLemmas
pub mod WalkLinesLemmas
pub mod FeedLinesLemmas
pub mod ArgumentsLemmas
