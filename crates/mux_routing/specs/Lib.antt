pub mod Kept
pub mod Members
pub mod Ranges
pub mod Reply
pub mod Routes
pub mod Shards
pub mod Strategies
