pub mod Lines
pub mod Prints
pub mod Sides
pub mod Status
pub mod Streaming
