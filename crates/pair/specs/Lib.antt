pub mod Lent
pub mod Meanings
pub mod Steps
pub mod Makings
pub mod Messages
pub mod Goings
