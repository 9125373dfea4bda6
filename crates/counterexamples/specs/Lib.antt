pub mod Setting
pub mod Early
pub mod Kept
pub mod Refusing
