pub mod ButFor
pub mod Cancels
pub mod Laws
