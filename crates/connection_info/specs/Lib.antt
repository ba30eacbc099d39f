pub mod Protocol
pub mod Host
pub mod Database
pub mod Credential
pub mod Refusal
pub mod Address
pub mod Config
pub mod Written
