pub mod Framing
pub mod Back
pub mod Forth
pub mod Fronts
pub mod Laying
pub mod Writes
pub mod Lengths
pub mod Valids
