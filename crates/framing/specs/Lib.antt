pub mod Posting
pub mod Filling
pub mod Calling
