pub mod Windows
pub mod Finding
pub mod Runs
pub mod Rows
pub mod Explained
