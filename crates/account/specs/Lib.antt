pub mod Rows
pub mod Logins
pub mod Requests
pub mod Fields
pub mod Table
pub mod Laws
pub mod Examples
