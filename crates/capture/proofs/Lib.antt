pub mod Windows
pub mod Runs
pub mod Turns
pub mod Flat
