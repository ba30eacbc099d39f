pub mod Each
pub mod Lines
pub mod Submits
pub mod Jobs
