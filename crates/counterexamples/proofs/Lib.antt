pub mod Walks
pub mod Starts
pub mod Early
pub mod Kept
pub mod Refusing
