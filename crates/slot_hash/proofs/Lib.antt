mod Register
mod Entries
mod Text
pub mod Order
