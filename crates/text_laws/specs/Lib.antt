pub mod Fits
pub mod History
pub mod Laws
pub mod Records
