pub mod Config
pub mod Refused
pub mod Backoff
