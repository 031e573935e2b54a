-- Lemmas for the functions of the walker: its steps, its loops and its views.
pub mod Bounds
pub mod Units
pub mod Steps
pub mod ViewValues
pub mod UnitHeaders
pub mod SameValues
pub mod Limits
pub mod UnderWay
pub mod Summarizing
pub mod WritingBack
pub mod Items
pub mod MainClauses
pub mod Feeding
pub mod TagFront
pub mod ShownRefusal
