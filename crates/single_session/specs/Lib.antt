pub mod Subscriptions
pub mod Generations
pub mod Turn
pub mod Done
pub mod Replay
