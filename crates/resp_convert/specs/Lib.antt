pub mod Convert
pub mod Types
