-- The wire grammar, in the order in which it is to be read: what a list of bytes holds from a start on. No type of a
-- walker occurs here. `Stack` is the walk, `Expectation` has the limit, `Demands` the lengths that a reader asks for.
-- The table of refusals is in `ether_base`: `Formats/Refusal`.
pub mod Window
pub mod Expectation
pub mod Stack
pub mod Endings
pub mod Places
pub mod Cuts
pub mod Extensions
pub mod Cleared
pub mod Demands
pub mod Completion
pub mod Laws
