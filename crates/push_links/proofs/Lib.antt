pub mod Threads
mod Gains
