pub mod Taken
pub mod Dials
pub mod Laws
pub mod Flights
