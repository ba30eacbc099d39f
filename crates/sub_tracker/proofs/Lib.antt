pub mod Order
pub mod Held
pub mod Names
pub mod Decided
pub mod Short
pub mod Threads
