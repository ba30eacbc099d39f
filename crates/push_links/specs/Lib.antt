pub mod Held
pub mod Links
