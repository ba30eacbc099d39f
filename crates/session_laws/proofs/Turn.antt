pub mod Announce
pub mod Heard
pub mod Effects
pub mod Legality
pub mod Opening
pub mod Ordered
pub mod Ends
