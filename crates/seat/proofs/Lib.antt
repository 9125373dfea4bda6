pub mod Asks
pub mod Frames
pub mod Writes
