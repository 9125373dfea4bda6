pub mod Calls
pub mod Copies
pub mod Histories
pub mod Slots
pub mod Levels
pub mod OwnedPairs
pub mod CallHistory
