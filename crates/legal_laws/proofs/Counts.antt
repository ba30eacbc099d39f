pub mod Sums
pub mod Notes
pub mod Weights
pub mod Heard
pub mod Starts
pub mod Links
pub mod Timers
pub mod Few
