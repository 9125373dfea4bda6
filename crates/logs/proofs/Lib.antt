pub mod Longer
pub mod Laying
pub mod Forms
pub mod Framed
