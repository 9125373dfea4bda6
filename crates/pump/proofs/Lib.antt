pub mod Laws
pub mod Counts
pub mod Draws
