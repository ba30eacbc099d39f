pub mod Turning
pub mod Listed
