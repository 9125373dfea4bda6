pub mod Made
pub mod Makings
pub mod AnyPairs
pub mod Strangers
