pub mod Runs
pub mod Filed
pub mod Edges
pub mod Keeping
