pub mod Padding
pub mod Only
pub mod Marking
pub mod Deciding
