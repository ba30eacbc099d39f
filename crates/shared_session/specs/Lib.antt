pub mod History
pub mod IsReplay
pub mod Stops
