-- What a walker shows and gives, and what the calls that walk a list return, in the order in which it is to be read.
-- The walk itself, its limit and its demands are in `Grammar`: `Stack`, `Expectation`, `Demands`.
pub mod State
pub mod Start
pub mod Reading
pub mod Fault
pub mod Next
pub mod UnderWay
pub mod UnitHeader
pub mod Summary
pub mod WriteBack
pub mod MainTheorem
pub mod Limits
pub mod Feeding
pub mod SameUnit
pub mod Texts
