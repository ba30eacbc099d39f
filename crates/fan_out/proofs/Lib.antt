pub mod Coming
pub mod Deciding
pub mod Keeping
pub mod Order
pub mod Placing
pub mod Summing
pub mod Tallying
pub mod Telling
