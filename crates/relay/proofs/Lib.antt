pub mod Keeping
pub mod History
pub mod Filling
pub mod Bringing
pub mod Walks
