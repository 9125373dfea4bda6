pub mod Slotted
pub mod Sounds
