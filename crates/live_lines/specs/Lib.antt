pub mod Does
pub mod Flights
pub mod Live
pub mod Outcomes
pub mod Plans
