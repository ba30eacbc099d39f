mod Causes
mod Over
pub mod Threads
