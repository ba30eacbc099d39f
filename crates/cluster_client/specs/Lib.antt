pub mod Params
pub mod Config
pub mod Chosen
pub mod Checks
pub mod Client
pub mod Settings
pub mod Agreement
pub mod Dialled
