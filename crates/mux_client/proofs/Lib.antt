pub mod Words
mod Calls
mod Kept
mod Late
mod Told
pub mod Threads
pub mod Managed
