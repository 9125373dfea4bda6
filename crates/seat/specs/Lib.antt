pub mod Ends
pub mod Asks
pub mod Receives
pub mod State
pub mod Acts
