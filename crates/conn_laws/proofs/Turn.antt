pub mod Announce
pub mod Heard
pub mod Opening
pub mod Ordered
pub mod Adds
