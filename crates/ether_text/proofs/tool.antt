pub mod InputLinesLemmas
pub mod ParseFrameLemmas
pub mod DigitTableLemmas
pub mod LineLoopLemmas
pub mod RunLemmas
pub mod ModeLemmas
pub mod CommandLemmas
