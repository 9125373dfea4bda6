pub mod Posts
pub mod Messages
pub mod Takes
pub mod Fills
pub mod Shortness
