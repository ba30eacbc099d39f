pub mod Credentials
pub mod Message
pub mod Refresh
pub mod Threshold
pub mod Stream
