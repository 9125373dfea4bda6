pub mod Frames
pub mod Writes
pub mod Asks
