pub mod Takes
pub mod Moves
