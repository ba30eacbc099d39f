pub mod Asked
pub mod Shown
pub mod Runs
pub mod Settling
pub mod Turns
pub mod Stages
mod Going
pub mod Searches
pub mod Later
pub mod Balance
pub mod Words
pub mod Whole
pub mod Agendas
pub mod Claiming
pub mod Hearing
mod Standing
pub mod Heard
pub mod Early
pub mod Good
