pub mod State
pub mod Acts
pub mod Dues
pub mod Ends
pub mod Receives
pub mod Sends
pub mod Asks
