pub mod Book
pub mod Runs
pub mod Promises
pub mod Completes
