pub mod Values
pub mod Decoding
pub mod Meanings
pub mod Laws
pub mod Writing
pub mod Examples
pub mod LetterCounts
