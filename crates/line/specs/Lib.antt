pub mod Sizes
pub mod Lines
pub mod Transfers
