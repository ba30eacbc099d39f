pub mod Commands
pub mod Lookup
pub mod Parts
pub mod Routing
pub mod Selection
pub mod Splitting
pub mod PartCommand
