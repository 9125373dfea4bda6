pub mod Arguments
pub mod Choices
pub mod Passing
pub mod Tallies
pub mod Pumping
pub mod Pumpers
