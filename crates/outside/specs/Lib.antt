pub mod Ends
pub mod Feeding
pub mod Memory
pub mod World
pub mod MemWorld
pub mod NetWorld
