pub mod Address
pub mod Crc
pub mod Order
pub mod OrderLaws
pub mod Tag
