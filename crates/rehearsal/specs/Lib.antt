pub mod Counting
pub mod Actions
pub mod Lines
pub mod Stages
