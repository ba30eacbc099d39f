pub mod Subscribed
pub mod Held
pub mod Pipeline
pub mod Texts
