pub mod Numbers
pub mod Coded
pub mod Laid
