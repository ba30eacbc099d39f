pub mod Replays
pub mod Threads
