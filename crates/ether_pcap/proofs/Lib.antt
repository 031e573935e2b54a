pub mod Numbers
mod Records
mod FileHeaders
mod Writing
mod WrittenFiles
mod Blocks
mod Bodies
mod Sections
mod Options
mod Captures
mod UnitsRead
mod UnitOptions
mod CaptureTimes
pub mod CaptureLengths
pub mod CaptureLocality
pub mod CapturesOne
pub mod PacketsOne
pub mod CaptureSome
pub mod CaptureReadingLemmas
pub mod Copies
mod Interfaces
pub mod CopiesOne
pub mod CopiesCompose
pub mod EditUnits
pub mod PacketUnits
pub mod EditPackets
pub mod WithBytes
pub mod CopiedUnits
mod EditedBlocks
pub mod WrittenBlocks
mod WrittenSections
