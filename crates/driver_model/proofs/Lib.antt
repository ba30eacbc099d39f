pub mod Text
pub mod Sound
pub mod Steps
mod Replies
