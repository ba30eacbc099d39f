mod Children
mod Places
pub mod Threads
