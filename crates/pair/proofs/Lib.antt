pub mod Sides
pub mod Both
pub mod Makings
pub mod Drains
