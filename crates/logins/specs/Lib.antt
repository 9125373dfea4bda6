pub mod Tokens
pub mod Instructions
pub mod LoginStates
pub mod Laws
